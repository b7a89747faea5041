-- What the answer to tokens says of them.
use Rattle.std.proofs.Common.{◌≡◌, ℕ, ◌<◌, ◌≤◌, max, nat_le, nat_lt, List, [], map, Bool, true, false, Option, Some}
use Rattle.std.proofs.Common.{None, Result, Ok, Err, IfOk, IfErr, MatchOption, refl, sym, ap, ◌∙◌, subst, arith}
use Rattle.std.proofs.lemmas.Bool.Decides.{nat_tests}
use Rattle.bicep_lexer.specs.Reading.{Standing}
use Rattle.bicep_tree.specs.Tree.{FileTree}
use Rattle.bicep_tree.specs.Nesting.{file_nesting}
use Rattle.bicep_tree.specs.Terminals.{placed}
use Rattle.bicep_tree.specs.Declarations.{Spells}
use Rattle.bicep_machine.specs.Kept.{Kept}
use Rattle.bicep_machine.specs.Machine.{parsed}
use Rattle.std.specs.declared.vec.Vec.{Vec}
use Rattle.std.specs.declared.alloc.Global.{Global}
use Rattle.bicep_tree.specs.declared.declaration.Statement.{Statement}
use Rattle.bicep_tree.specs.View.{file_of}
use Rattle.bicep_parser.specs.declared.fault.ParseFault.{ParseFault}
use Rattle.bicep_parser.specs.declared.fault.ParseFault.TheVariants as fault
use Rattle.bicep_parser.specs.Answers.{Outcome, Answers}
use Rattle.bicep_parser.specs.Refused.{Refuses, SpellOneFile}
use Rattle.bicep_machine.proofs.Spelling.{spelled_is_read, read_is_spelled}
use Rattle.bicep_machine.specs.Spelled.{IsKept}

-- of a file that is kept, whether it was kept whole
whole_or_deep : (most : ℕ) (f : FileTree) (k : Kept FileTree) → IsKept most f k → k.1 ≤ most → (k.0 ≡ f)
    × (file_nesting f ≤ most)
whole_or_deep most f k is low = by (nat_le (file_nesting f) most) refl
  where
    by : (b : Bool) → nat_le (file_nesting f) most ≡ b → (k.0 ≡ f) × (file_nesting f ≤ most)
    by true e =
        let le : file_nesting f ≤ most = grind (arith, nat_tests) in
        (ap (λ x. x.0) (is.whole le), le)
    by false e =
        let lt : most < file_nesting f = grind (arith, nat_tests) in
        let deep : most < k.1 = is.deep lt in
        absurd (omega arith)

pub read_spells : (ts : List Standing) (k : Kept FileTree) → parsed 64 (map placed ts) ≡ Some k → k.1 ≤ 64
    → Spells k.0 ts × (file_nesting k.0 ≤ 64)
read_spells ts k h low =
    let s = read_is_spelled 64 (map placed ts) k h in
    let w = whole_or_deep 64 s.0 k s.2 low in
    (subst (λ f. Spells f ts) (sym w.0) s.1, subst (λ f. file_nesting f ≤ 64) (sym w.0) w.1)

pub read_deep : (ts : List Standing) (k : Kept FileTree) → parsed 64 (map placed ts) ≡ Some k → 64 < k.1
    → (f : FileTree) × Spells f ts × (64 < file_nesting f)
read_deep ts k h high =
    let s = read_is_spelled 64 (map placed ts) k h in
    (s.0, s.1, by s.0 s.2 (nat_lt 64 (file_nesting s.0)) refl)
  where
    by : (f : FileTree) → IsKept 64 f k → (b : Bool) → nat_lt 64 (file_nesting f) ≡ b → 64 < file_nesting f
    by f is true e = grind (arith, nat_tests)
    by f is false e =
        let le : file_nesting f ≤ 64 = grind (arith, nat_tests) in
        let same : k.1 ≡ file_nesting f = ap (λ x. x.1) (is.whole le) in
        absurd (omega arith)

pub none_spelled : (ts : List Standing) → parsed 64 (map placed ts) ≡ None → (f : FileTree) → Spells f ts → ⊥
none_spelled ts h f s = let some = (spelled_is_read 64 f (map placed ts) (omega arith) s).1 in absurd cc

-- a file that is spelled is read whole, where the limit is no less than its nesting
read_whole : (most : ℕ) (f : FileTree) (ts : List Standing) → 1 ≤ most → file_nesting f ≤ most → Spells f ts
    → parsed most (map placed ts) ≡ Some (f, file_nesting f)
read_whole most f ts low fits s =
    let r = spelled_is_read most f (map placed ts) low s in
    r.1 ∙ ap Some (r.2.whole fits)

the_file : Option (Kept FileTree) → FileTree
the_file None = []
the_file (Some k) = k.0

pub one_file : SpellOneFile
unfolding the_file
one_file ts f g s t =
    let most : ℕ = max 1 (max (file_nesting f) (file_nesting g)) in
    let low : 1 ≤ most = omega arith in
    let first = read_whole most f ts low (omega arith) s in
    let second = read_whole most g ts low (omega arith) t in
    let both : ◌≡◌ {A = Option (Kept FileTree)} (Some (f, file_nesting f)) (Some (g, file_nesting g)) = sym first
    ∙ second in
    ap the_file both

-- ---- what is answered

pub spelled : (ts : List Standing) (r : Result (Vec Statement Global) ParseFault)
    → Answers r (parsed 64 (map placed ts)) → IfOk r (λ f. Spells (file_of f.items) ts)
spelled ts (Ok f) h = by (parsed 64 (map placed ts)) refl h
  where
    by : (o : Outcome) → parsed 64 (map placed ts) ≡ o → MatchOption o ⊥ (λ k. (k.0 ≡ file_of f.items) × (k.1 ≤ 64))
        → Spells (file_of f.items) ts
    by None e h = absurd h
    by (Some k) e h = subst (λ g. Spells g ts) h.0 (read_spells ts k e h.1).0
spelled ts (Err e) h = tt

pub shallow : (ts : List Standing) (r : Result (Vec Statement Global) ParseFault)
    → Answers r (parsed 64 (map placed ts)) → IfOk r (λ f. file_nesting (file_of f.items) ≤ 64)
shallow ts (Ok f) h = by (parsed 64 (map placed ts)) refl h
  where
    by : (o : Outcome) → parsed 64 (map placed ts) ≡ o → MatchOption o ⊥ (λ k. (k.0 ≡ file_of f.items) × (k.1 ≤ 64))
        → file_nesting (file_of f.items) ≤ 64
    by None e h = absurd h
    by (Some k) e h = subst (λ g. file_nesting g ≤ 64) h.0 (read_spells ts k e h.1).1
shallow ts (Err e) h = tt

pub refused : (ts : List Standing) (r : Result (Vec Statement Global) ParseFault)
    → Answers r (parsed 64 (map placed ts)) → IfErr r (Refuses ts)
refused ts (Ok f) h = tt
refused ts (Err (fault.NotAFile at)) h = none_spelled ts h
refused ts (Err (fault.TooDeep at)) h = by (parsed 64 (map placed ts)) refl h
  where
    by : (o : Outcome) → parsed 64 (map placed ts) ≡ o → MatchOption o ⊥ (λ k. 64 < k.1) → (f : FileTree)
        × Spells f ts × (64 < file_nesting f)
    by None e h = absurd h
    by (Some k) e h = read_deep ts k e h
refused ts (Err fault.OutOfMemory) h = tt
