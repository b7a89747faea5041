-- Lists that are read as far as their next part.
use Rattle.std.proofs.Common.{◌≡◌, ℕ, ◌&&◌, List, [], ◌∷◌, ◌++◌, Bool, true, false, true≢false, refl, ap, sym, ◌∙◌}
use Rattle.std.proofs.Common.{subst, append_assoc}
use Rattle.std.specs.List.{AllByRecursion}
use Rattle.bicep_tree.specs.declared.terminal.Terminal.{Terminal}
use Rattle.bicep_tree.specs.declared.terminal.Terminal.TheVariants as t
use Rattle.bicep_tree.specs.Tree.{Tree, none, more, no_hole, hole, MemberTree, DecoratorTree, no_decorator}
use Rattle.bicep_tree.specs.Tree.{and_decorator, FileTree, trees, holes, members, decorators}
use Rattle.bicep_tree.specs.Terminals.{Placed}
use Rattle.bicep_tree.specs.Forms.{Form, ◌▹◌, nothing, is_newline, is_separator, one, any, skipped, sign, token_at}
use Rattle.bicep_tree.specs.Forms.{token}
use Rattle.bicep_tree.specs.Expressions.{expression, arguments, further_arguments, items, further_items, a_hole}
use Rattle.bicep_tree.specs.Expressions.{after_hole, object_members, further_members, a_member, decorated}
use Rattle.bicep_tree.specs.Expressions.{a_decorator}
use Rattle.bicep_tree.specs.Declarations.{a_statement, a_file, further_statements}

-- ---- terminals that pass a test

passed_put : (test : Terminal → Bool) (ps : List Placed) (p : Placed) → AllByRecursion (λ t. test t.1 ≡ true) ps
    → test p.1 ≡ true → AllByRecursion (λ t. test t.1 ≡ true) (ps ++ p ∷ [])
passed_put test [] p all e = (e, tt)
passed_put test (x ∷ ps) p all e = (all.0, passed_put test ps p all.1 e)

pub any_put : (test : Terminal → Bool) (a : List Placed) (p : Placed) (b : List Placed) → test p.1 ≡ true
    → any test a (p ∷ b) → any test a b
any_put test a p b e h = (h.0 ++ p ∷ [], passed_put test h.0 p h.1 e, h.2 ∙ sym (append_assoc h.0 (p ∷ []) b))

pub some_put : (test : Terminal → Bool) (a : List Placed) (p : Placed) (b : List Placed) → test p.1 ≡ true
    → (one test ▹ any test) a (p ∷ b) → (one test ▹ any test) a b
some_put test a p b e h = (h.0, h.1, any_put test h.0 p b e h.2)

pub some_one : (test : Terminal → Bool) (p : Placed) (b : List Placed) → test p.1 ≡ true
    → (one test ▹ any test) (p ∷ b) b
some_one test p b e = (b, (p.0, p.1, refl, e), ([], tt, refl))

pub some_any : (test : Terminal → Bool) (a b : List Placed) → (one test ▹ any test) a b → any test a b
some_any test a b (m, (x, y, is, e), (ps, all, more_is)) = ((x, y) ∷ ps, (e, all), is ∙ ap (λ z. (x, y) ∷ z) more_is)

-- where nothing is skipped
none_passed : (ps a b : List Placed) → AllByRecursion (λ t. (false && is_newline t.1) ≡ true) ps → a ≡ ps ++ b → a ≡ b
none_passed [] a b all e = e
none_passed (p ∷ ps) a b all e = absurd (true≢false (sym all.0))

pub not_skipped : (a b : List Placed) → skipped false a b → a ≡ b
not_skipped a b h = none_passed h.0 a b h.1 h.2

pub plain_token : (at : ℕ) (y : Terminal) (a b : List Placed) → token_at false at y a b → a ≡ (at, y) ∷ b
plain_token at y a b h = not_skipped a h.0 h.1 ∙ h.2

-- ---- parts with separators between them, as they are read and as they are spelled

module _ {X : Type 0} (test : Terminal → Bool) (F : X → Form) where
  -- parts, and a separator after each
  abbrev pub Tail : List X → Form
  Tail [] = one test ▹ any test
  Tail (x ∷ xs) = (one test ▹ any test) ▹ F x ▹ Tail xs

  abbrev pub Parts : List X → Form
  Parts [] = any test
  Parts (x ∷ xs) = any test ▹ F x ▹ Tail xs

  -- parts up to a close
  abbrev pub Further : Form → List X → Form
  Further C [] = any test ▹ C
  Further C (x ∷ xs) = (one test ▹ any test) ▹ F x ▹ Further C xs

  abbrev pub Whole : Form → List X → Form
  Whole C [] = any test ▹ C
  Whole C (x ∷ xs) = any test ▹ F x ▹ Further C xs

  tail_more : (xs : List X) (a : List Placed) (p : Placed) (b : List Placed) → test p.1 ≡ true → Tail xs a (p ∷ b)
      → Tail xs a b
  tail_more [] a p b e h = some_put test a p b e h
  tail_more (x ∷ xs) a p b e (m, s, (n, f, h)) = (m, s, (n, f, tail_more xs n p b e h))

  pub parts_more : (xs : List X) (a : List Placed) (p : Placed) (b : List Placed) → test p.1 ≡ true
      → Parts xs a (p ∷ b) → Parts xs a b
  parts_more [] a p b e h = any_put test a p b e h
  parts_more (x ∷ xs) a p b e (m, s, (n, f, h)) = (m, s, (n, f, tail_more xs n p b e h))

  tail_put : (xs : List X) (x : X) (a b c d : List Placed) → Tail xs a b → F x b c → (one test ▹ any test) c d
      → Tail (xs ++ x ∷ []) a d
  tail_put [] x a b c d h f s = (b, h, (c, f, s))
  tail_put (y ∷ xs) x a b c d (m, q, (n, g, h)) f s = (m, q, (n, g, tail_put xs x n b c d h f s))

  pub parts_put : (xs : List X) (x : X) (a b c d : List Placed) → Parts xs a b → F x b c → (one test ▹ any test) c d
      → Parts (xs ++ x ∷ []) a d
  parts_put [] x a b c d h f s = (b, h, (c, f, s))
  parts_put (y ∷ xs) x a b c d (m, q, (n, g, h)) f s = (m, q, (n, g, tail_put xs x n b c d h f s))

  tail_last : (C : Form) (xs : List X) (x : X) (a b c d : List Placed) → Tail xs a b → F x b c → C c d
      → Further C (xs ++ x ∷ []) a d
  tail_last C [] x a b c d h f s = (b, h, (c, f, (c, ([], tt, refl), s)))
  tail_last C (y ∷ xs) x a b c d (m, q, (n, g, h)) f s = (m, q, (n, g, tail_last C xs x n b c d h f s))

  pub parts_last : (C : Form) (xs : List X) (x : X) (a b c d : List Placed) → Parts xs a b → F x b c → C c d
      → Whole C (xs ++ x ∷ []) a d
  parts_last C [] x a b c d h f s = (b, h, (c, f, (c, ([], tt, refl), s)))
  parts_last C (y ∷ xs) x a b c d (m, q, (n, g, h)) f s = (m, q, (n, g, tail_last C xs x n b c d h f s))

  tail_end : (C : Form) (xs : List X) (a b c : List Placed) → Tail xs a b → C b c → Further C xs a c
  tail_end C [] a b c h s = (b, some_any test a b h, s)
  tail_end C (y ∷ xs) a b c (m, q, (n, g, h)) s = (m, q, (n, g, tail_end C xs n b c h s))

  pub parts_end : (C : Form) (xs : List X) (a b c : List Placed) → Parts xs a b → C b c → Whole C xs a c
  parts_end C [] a b c h s = (b, h, s)
  parts_end C (y ∷ xs) a b c (m, q, (n, g, h)) s = (m, q, (n, g, tail_end C xs n b c h s))

-- ---- items, members and statements are such parts

abbrev pub ItemsRead : List Tree → Form
ItemsRead es = Parts is_separator (expression false) es

abbrev pub MembersRead : List MemberTree → Form
MembersRead ms = Parts is_separator a_member ms

abbrev pub StatementsRead : FileTree → Form
StatementsRead ss = Parts is_newline a_statement ss

more_items : (es : List Tree) (a b : List Placed)
    → Further is_separator (expression false) (sign t.CloseBracket) es a b → further_items (trees es) a b
more_items [] a b h = h
more_items (e ∷ es) a b (m, s, (n, f, h)) = (m, s, (n, f, more_items es n b h))

pub whole_items : (es : List Tree) (a b : List Placed)
    → Whole is_separator (expression false) (sign t.CloseBracket) es a b → (any is_separator ▹ items (trees es)) a b
whole_items [] a b h = h
whole_items (e ∷ es) a b (m, s, (n, f, h)) = (m, s, (n, f, more_items es n b h))

more_members : (ms : List MemberTree) (a b : List Placed) → Further is_separator a_member (sign t.CloseBrace) ms a b
    → further_members (members ms) a b
more_members [] a b h = h
more_members (e ∷ es) a b (m, s, (n, f, h)) = (m, s, (n, f, more_members es n b h))

pub whole_members : (ms : List MemberTree) (a b : List Placed)
    → Whole is_separator a_member (sign t.CloseBrace) ms a b → (any is_separator ▹ object_members (members ms)) a b
whole_members [] a b h = h
whole_members (e ∷ es) a b (m, s, (n, f, h)) = (m, s, (n, f, more_members es n b h))

more_statements : (ss : FileTree) (a b : List Placed) → Further is_newline a_statement nothing ss a b
    → further_statements ss a b
more_statements [] a b (m, s, e) = subst (any is_newline a) e s
more_statements (x ∷ ss) a b ((m), (m1, o, s), (n, f, h)) = (m1, o, (m, s, (n, f, more_statements ss n b h)))

pub whole_statements : (ss : FileTree) (a b : List Placed) → Whole is_newline a_statement nothing ss a b → a_file ss a b
whole_statements [] a b (m, s, e) = subst (any is_newline a) e s
whole_statements (x ∷ ss) a b (m, s, (n, f, h)) = (m, s, (n, f, more_statements ss n b h))

-- ---- arguments, and a comma after each

abbrev pub ArgumentsRead : List Tree → Form
ArgumentsRead [] = nothing
ArgumentsRead (e ∷ es) = expression true e ▹ token true t.Comma ▹ ArgumentsRead es

pub arguments_put : (es : List Tree) (e : Tree) (a b c d : List Placed) → ArgumentsRead es a b → expression true e b c
    → token true t.Comma c d → ArgumentsRead (es ++ e ∷ []) a d
arguments_put [] e a b c d h f s = subst (λ z. (expression true e ▹ token true t.Comma ▹ nothing) z d) (sym h)
    (c, f, (d, s, refl))
arguments_put (x ∷ es) e a b c d (m, g, (n, q, h)) f s = (m, g, (n, q, arguments_put es e n b c d h f s))

arguments_further : (es : List Tree) (e : Tree) (a b c d : List Placed) → (token true t.Comma ▹ ArgumentsRead es) a b
    → expression true e b c → token true t.CloseParen c d → further_arguments (trees (es ++ e ∷ [])) a d
arguments_further [] e a b c d (m, q, h) f s = (b, subst (token true t.Comma a) h q, (c, f, s))
arguments_further (x ∷ es) e a b c d (m, q, (n, g, h)) f s = (m, q, (n, g, arguments_further es e n b c d h f s))

pub arguments_last : (es : List Tree) (e : Tree) (a b c d : List Placed) → ArgumentsRead es a b
    → expression true e b c → token true t.CloseParen c d → arguments (trees (es ++ e ∷ [])) a d
arguments_last [] e a b c d h f s = subst (λ z. arguments (more e none) z d) (sym h) (c, f, s)
arguments_last (x ∷ es) e a b c d (m, g, h) f s = (m, g, arguments_further es e m b c d h f s)

-- ---- holes, and a middle piece after each

abbrev pub HolesRead : Bool → List (Tree × List ℕ) → Form
HolesRead i [] = nothing
HolesRead i (h ∷ hs) = expression i h.0 ▹ token i (t.MiddlePiece h.1) ▹ HolesRead i hs

pub holes_more : (i : Bool) (hs : List (Tree × List ℕ)) (e : Tree) (u : List ℕ) (a b c d : List Placed)
    → HolesRead i hs a b → expression i e b c → token i (t.MiddlePiece u) c d → HolesRead i (hs ++ (e, u) ∷ []) a d
holes_more i [] e u a b c d h f s = subst (λ z. (expression i e ▹ token i (t.MiddlePiece u) ▹ nothing) z d) (sym h)
    (c, f, (d, s, refl))
holes_more i (x ∷ hs) e u a b c d (m, g, (n, q, h)) f s = (m, g, (n, q, holes_more i hs e u n b c d h f s))

holes_further : (i : Bool) (v : List ℕ) (hs : List (Tree × List ℕ)) (e : Tree) (u : List ℕ) (a b c d : List Placed)
    → (token i (t.MiddlePiece v) ▹ HolesRead i hs) a b → expression i e b c → token i (t.RightPiece u) c d
    → after_hole i v (holes (hs ++ (e, u) ∷ [])) a d
holes_further i v [] e u a b c d (m, q, h) f s = (b, subst (token i (t.MiddlePiece v) a) h q, (c, f, s))
holes_further i v (x ∷ hs) e u a b c d (m, q, (n, g, h)) f s = (m, q, (n, g, holes_further i x.1 hs e u n b c d h f s))

pub holes_last : (i : Bool) (hs : List (Tree × List ℕ)) (e : Tree) (u : List ℕ) (a b c d : List Placed)
    → HolesRead i hs a b → expression i e b c → token i (t.RightPiece u) c d
    → a_hole i (holes (hs ++ (e, u) ∷ [])) a d
holes_last i [] e u a b c d h f s = subst (λ z. a_hole i (hole e u no_hole) z d) (sym h) (c, f, s)
holes_last i (x ∷ hs) e u a b c d (m, g, h) f s = (m, g, holes_further i x.1 hs e u m b c d h f s)

-- ---- decorators

pub decorated_put : (ds : List DecoratorTree) (d : DecoratorTree) (a b c e : List Placed)
    → decorated (decorators ds) a b → a_decorator d b c → sign t.Newline c e
    → decorated (decorators (ds ++ d ∷ [])) a e
decorated_put [] d a b c e h f s =
    subst (λ z. decorated (and_decorator d no_decorator) z e) (sym h) (c, f, (e, s, refl))
decorated_put (x ∷ ds) d a b c e (m, g, (n, q, h)) f s = (m, g, (n, q, decorated_put ds d n b c e h f s))
