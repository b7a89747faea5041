-- Tokens that end a body, and the resource or module that it belongs to.
use Rattle.std.proofs.Common.{ℕ, List, ◌∷◌, Bool, false, codes, refl}
use Rattle.bicep_lexer.specs.declared.kind.TokenKind.TheVariants as k
use Rattle.bicep_tree.specs.declared.leaf.LoopNames.{LoopNames}
use Rattle.bicep_tree.specs.declared.terminal.Terminal.TheVariants as t
use Rattle.bicep_tree.specs.Tree.{Tree, ObjectTree, BodyTree}
use Rattle.bicep_machine.specs.declared.word.Owner.TheVariants as owner
use Rattle.bicep_machine.specs.Kept.{Kept, empty, of_loop, of_members}
use Rattle.bicep_machine.specs.Stack as s
use Rattle.bicep_machine.specs.Stack.{Header, header, Front, nothing_before, a_condition, loop_and_condition, Frame}
use Rattle.bicep_machine.specs.Stack.{in_object, body_over, bodied, member, looped_body, guarded, body_end, headed}
use Rattle.bicep_machine.specs.Stack.{existed}
use Rattle.bicep_machine.specs.Closing.{body_on, fronted, colon_on}
use Rattle.bicep_parser.proofs.Fitting.{place_of, Fits}
use Rattle.bicep_parser.proofs.Completing.{bracket, brace, Completes, Leads, Ends, by_token, to, by_closer}
use Rattle.bicep_parser.proofs.Completing.{past_statement_ends, past_member_ends}

-- after a body
pub body_leads : (hd : Header) (b : Kept BodyTree) (S : List Frame) → Ends S → Fits (place_of hd) S
    → Leads (body_on hd b S)
body_leads (header ds at (owner.Resource e) n q) b S c h = to _ false S (past_statement_ends _ false S h)
body_leads (header ds at (owner.Child e) n q) b S c h = to _ false S (past_member_ends _ false S (c.member_ends h _))
body_leads (header ds at owner.Module n q) b S c h = to _ false S (past_statement_ends _ false S h)

-- after the object of a loop's body
pub body_end_ends : (hd : Header) (b : Kept BodyTree) (i : Bool) (S : List Frame) → Ends S → Fits (place_of hd) S
    → Completes (body_end hd b) i S
body_end_ends hd b i S c h = by_closer bracket (body_end hd b) i S (body_leads hd b S c h)

-- after the object of a body
pub fronted_leads : (hd : Header) (f : Front) (o : Kept ObjectTree) (S : List Frame) → Ends S → Fits (place_of hd) S
    → Leads (fronted 64 hd f o S)
fronted_leads hd nothing_before o S c h = body_leads hd _ S c h
fronted_leads hd (a_condition at e) o S c h = body_leads hd _ S c h
fronted_leads hd (s.a_loop l) o S c h = to _ false S (body_end_ends hd _ false S c h)
fronted_leads hd (loop_and_condition l at e) o S c h = to _ false S (body_end_ends hd _ false S c h)

-- the object of a body is `{}`
object_ends : (hd : Header) (f : Front) (S : List Frame) → Ends S → Fits (place_of hd) S
    → Completes member false (in_object 0 false empty ∷ bodied hd f ∷ S)
object_ends hd f S c h = by_closer brace member false (in_object 0 false empty ∷ bodied hd f ∷ S)
    (fronted_leads hd f (of_members 64 0 empty) S c h)

pub body_ends : (hd : Header) (f : Front) (i : Bool) (S : List Frame) → Ends S → Fits (place_of hd) S
    → Completes s.body i (bodied hd f ∷ S)
body_ends hd f i S c h = by_token (k.OpenBrace, 0, codes "{") t.OpenBrace s.body i (bodied hd f ∷ S) refl refl
    (to member false (in_object 0 false empty ∷ bodied hd f ∷ S) (object_ends hd f S c h))

pub looped_body_ends : (hd : Header) (f : Front) (i : Bool) (S : List Frame) → Ends S → Fits (place_of hd) S
    → Completes looped_body i (bodied hd f ∷ S)
looped_body_ends hd f i S c h =
    by_token (k.OpenBrace, 0, codes "{") t.OpenBrace looped_body i (bodied hd f ∷ S) refl refl
    (to member false (in_object 0 false empty ∷ bodied hd f ∷ S) (object_ends hd f S c h))

pub guarded_ends : (hd : Header) (f : Front) (i : Bool) (S : List Frame) → Ends S → Fits (place_of hd) S
    → Completes guarded i (bodied hd f ∷ S)
guarded_ends hd f i S c h = by_token (k.OpenBrace, 0, codes "{") t.OpenBrace guarded i (bodied hd f ∷ S) refl refl
    (to member false (in_object 0 false empty ∷ bodied hd f ∷ S) (object_ends hd f S c h))

pub headed_ends : (hd : Header) (i : Bool) (S : List Frame) → Ends S → Fits (place_of hd) S → Completes (headed hd) i S
headed_ends hd i S c h =
    by_token (k.Assign, 0, codes "=") t.Assign (headed hd) i S refl refl
    (to s.body false (bodied hd nothing_before ∷ S) (body_ends hd nothing_before false S c h))

pub existed_ends : (hd : Header) (i : Bool) (S : List Frame) → Ends S → Fits (place_of hd) S
    → Completes (existed hd) i S
existed_ends hd i S c h =
    by_token (k.Assign, 0, codes "=") t.Assign (existed hd) i S refl refl
    (to s.body false (bodied hd nothing_before ∷ S) (body_ends hd nothing_before false S c h))

-- after the values of a body's loop
pub looped_leads : (i : Bool) (e : Kept Tree) (at : ℕ) (ns : LoopNames) (hd : Header) (S : List Frame) → Ends S
    → Fits (place_of hd) S → Leads (colon_on 64 i (e, body_over at ns hd ∷ S))
looped_leads i e at ns hd S c h = to looped_body false _ (looped_body_ends hd (s.a_loop (of_loop at ns e)) false S c h)
