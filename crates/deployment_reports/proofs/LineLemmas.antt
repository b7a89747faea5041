-- The lines of outputs, and their order.
use Rattle.std.proofs.Common.{◌≡◌, ℕ, Bool, true, false, List, [], ◌∷◌, ◌++◌, Result, Ok, Err}
use Rattle.std.proofs.Common.{sym, ap, ◌∙◌, append_assoc, append-nil}
use Rattle.std.specs.Prelude.{OnOk, if◌then◌else◌}
use Rattle.std.specs.declared.alloc.AllocError.{AllocError}
use Rattle.std.specs.declared.cmp.Ordering.{Ordering}
use Rattle.std.specs.Cmp.{IsStrictWeakOrder}
use Rattle.std.specs.Fn.{Mut, ComparesAs}
use Rattle.std.specs.List.Sorted.{IsSortedByClosure}
use Rattle.std.proofs.lemmas.Cmp.{nat_list_cmp_total}
use Rattle.std.proofs.lemmas.List.Sorted.{ranks_by}
use denote.Ref.{Bor}
use Rattle.lock_rules.specs.Texts.{text_cmp}
use Rattle.std.specs.Prelude.{encode_utf8_all}
use Rattle.task_standings.specs.declared.standing.RootOutput.{RootOutput}
use Rattle.deployment_reports.specs.Lines.{is_secret, line_of, shown_of, comes_before, AreInOrder}
use Rattle.deployment_reports.specs.declared.lines.OutputLine.{OutputLine}

-- the lines of an output that is secret or not
abbrev shown_by : RootOutput → Bool → List OutputLine
shown_by o secret = if secret then [] else line_of o ∷ []

-- an output that is secret has no line
pub shown_none : (ls : List OutputLine) (o : RootOutput) (b : Bool) → b ≡ is_secret o.kind → b ≡ true
    → ls ≡ ls ++ shown_of o
shown_none ls o b e h = sym (append-nil ls) ∙ ap (λ (c : Bool). ls ++ shown_by o c) (sym h ∙ e)

-- every other output has one
pub shown_one : (ls : List OutputLine) (o : RootOutput) (b : Bool) → b ≡ is_secret o.kind → b ≡ false
    → ls ++ line_of o ∷ [] ≡ ls ++ shown_of o
shown_one ls o b e h = ap (λ (c : Bool). ls ++ shown_by o c) (sym h ∙ e)

-- the order of lines by their names
pub names_order : IsStrictWeakOrder comes_before
unfolding text_cmp
names_order = ranks_by nat_list_cmp_total (λ (l : OutputLine). encode_utf8_all l.name)

pub ordered_by : {F : Type 0} {g : Mut F (Bor OutputLine × (Bor OutputLine × Unit {0})) Ordering} {f : F}
    (ls : List OutputLine) (r : Result (Unit {0}) AllocError) → OnOk r (IsSortedByClosure g f ls)
    → ComparesAs g comes_before f → OnOk r (AreInOrder ls)
ordered_by ls (Ok u) h k = h comes_before names_order k
ordered_by ls (Err e) h k = tt

-- a line that is added part by part
pub line_added : (old n e v b : List ℕ) → (((old ++ n) ++ e) ++ v) ++ b ≡ old ++ (n ++ (e ++ (v ++ b)))
line_added old n e v b =
    append_assoc ((old ++ n) ++ e) v b ∙ append_assoc (old ++ n) e (v ++ b) ∙ append_assoc old n (e ++ (v ++ b))

-- four parts that are added, of which the first and the third are equal to others
pub four_added : (old one two three four n m e v w b : List ℕ) → one ≡ old ++ n → n ≡ m → two ≡ one ++ e
    → three ≡ two ++ v → v ≡ w → four ≡ three ++ b → four ≡ old ++ (m ++ (e ++ (w ++ b)))
four_added old one two three four n m e v w b f x g h y k =
    let first : one ≡ old ++ m = f ∙ ap (λ (z : List ℕ). old ++ z) x in
    let second : two ≡ (old ++ m) ++ e = g ∙ ap (λ (z : List ℕ). z ++ e) first in
    let third : three ≡ ((old ++ m) ++ e) ++ w = h ∙ (λ i. second i ++ y i) in
    k ∙ ap (λ (z : List ℕ). z ++ b) third ∙ line_added old m e w b
