-- The texts of scopes and of instances.
use Rattle.std.proofs.Common.{◌≡◌, ℕ, zero, suc, ◌<◌, List, [], ◌∷◌, ◌++◌, map, length, get_or, Some, None}
use Rattle.std.proofs.Common.{refl, sym, ap, ap₂}
use Rattle.std.proofs.Common.{subst, ◌∙◌, arith}
use Rattle.std.specs.Prelude.{slice_get}
use Rattle.std.proofs.lemmas.List.{length-map, append-nil}
use Rattle.template_tree.specs.Tree.{TemplateTree}
use Rattle.template_tree.specs.View.{template_tree}
use Rattle.deploy_cells.specs.Cells.{Step, Position}
use Rattle.plan_sight.specs.Resources.{resources_in}
use Rattle.plan_table.specs.declared.frame.Frame.{Frame}
use Rattle.plan_table.specs.declared.frame.Instance.{Instance}
use Rattle.plan_table.specs.declared.listed.Listed as code
use Rattle.plan_table.specs.declared.table.Table.{Table}
use Rattle.plan_table.specs.Listed.{listed_of}
use Rattle.plan_table.specs.Opened.{Opened, opened_of, step_of, IsAround}
use Rattle.plan_table.specs.Whole.{whole_of, scopes_of, IsLaid}
use Rattle.plan_table.specs.Found.{scope_at}
use Rattle.plan_table.proofs.FrameLemmas.{frame_is}
use Rattle.plan_paths.specs.Resources.{path_at}
use Rattle.plan_paths.specs.Texts.{Style, a_path, loop_in, instance_in, instance_at, inside, scope_text, instance_text}

scopes_there : (t : Table) (f : ℕ) → f < length t.frames.items → f < length (scopes_of t)
scopes_there t f h = let n = length-map t.frames.items opened_of in omega (arith, n, h)

-- a scope that an instance opened
pub inside_is : (w : Style) (t : TemplateTree) (p q : Position) (s : Step) → q ≡ s ∷ p
    → inside (instance_text w t p s) ≡ scope_text w t q
unfolding scope_text
inside_is w t p q s e = ap (scope_text w t) (sym e)

pub root_is : (w : Style) (t : TemplateTree) (q : Position) → q ≡ [] → [] ≡ scope_text w t q
unfolding scope_text
root_is w t q e = ap (scope_text w t) (sym e)

-- the scope around one that an instance opened
pub around_is : (t : Table) (f : ℕ) (s : Step) (p : Position) → IsLaid t → f < length t.frames.items
    → (scope_at t f).position ≡ s ∷ p
    → ((scope_at t f).around < f) × ((scope_at t (scope_at t f).around).position ≡ p)
around_is t f s p laid h e =
    subst (λ q. IsAround (scopes_of t) f (scope_at t f) q) e (laid.kept f (scopes_there t f h)).around

-- an instance of a scope, by the template of its frame
pub instance_is : (w : Style) (t : Table) (f : ℕ) (s : Step) (fr : Frame) → IsLaid t → f < length t.frames.items
    → fr ≡ get_or t.frames.items f fr
    → scope_text w (whole_of t).template (scope_at t f).position ++ instance_in w (template_tree fr.template.now) s
    ≡ instance_text w (whole_of t).template (scope_at t f).position s
instance_is w t f s fr laid h e =
    ap (λ o. scope_text w (whole_of t).template (scope_at t f).position ++ instance_at w o s)
    (ap (λ (o : Opened). Some o.template) (sym (frame_is t.frames.items f fr h e))
    ∙ sym (laid.kept f (scopes_there t f h)).template)

pub path_made : (t : Table) (f : ℕ) (s : Step) (fr : Frame) (scope resource path : List ℕ) → IsLaid t
    → f < length t.frames.items → fr ≡ get_or t.frames.items f fr
    → scope ≡ scope_text a_path (whole_of t).template (scope_at t f).position
    → resource ≡ path_at (template_tree fr.template.now) s.resource → path ≡ scope ++ resource
    → path ≡ instance_text a_path (whole_of t).template (scope_at t f).position s
path_made t f s fr scope resource path laid h e a b c =
    c ∙ ap₂ (λ x y. x ++ y) a (b ∙ sym (append-nil (path_at (template_tree fr.template.now) s.resource)))
    ∙ instance_is a_path t f s fr laid h e

-- ---- what the code reads

frame_as : (t : Table) (f : ℕ) (fr : Frame) → f < length t.frames.items → fr ≡ get_or t.frames.items f fr
    → scope_at t f ≡ opened_of fr
frame_as t f fr h e = frame_is t.frames.items f fr h e

-- the position of a scope that was opened
pub first_at : (t : Table) (f : ℕ) (fr : Frame) (i : Instance) (is : List Instance) → f < length t.frames.items
    → fr ≡ get_or t.frames.items f fr → is ≡ fr.position.items → Some i ≡ slice_get is 0
    → (p : Position) × ((scope_at t f).position ≡ step_of i ∷ p)
first_at t f fr i [] h e c g = absurd (cc)
first_at t f fr i (y ∷ ys) h e c g =
    let same : y ≡ i = cc in (
      map step_of ys,
      ap (λ (o : Opened). o.position) (frame_as t f fr h e)
          ∙ ap (map step_of) (sym c ∙ ap (λ (x : Instance). x ∷ ys) same),
    )

pub none_at : (t : Table) (f : ℕ) (fr : Frame) (is : List Instance) → f < length t.frames.items
    → fr ≡ get_or t.frames.items f fr → is ≡ fr.position.items → None ≡ slice_get is 0 → (scope_at t f).position ≡ []
none_at t f fr [] h e c g = ap (λ (o : Opened). o.position) (frame_as t f fr h e) ∙ ap (map step_of) (sym c)
none_at t f fr (y ∷ ys) h e c g = absurd (cc)

-- the scope around it
pub around_there : (t : Table) (f : ℕ) (fr fs : Frame) (i : Instance) (is : List Instance) → IsLaid t
    → f < length t.frames.items → fr ≡ get_or t.frames.items f fr → fs ≡ get_or t.frames.items f fs
    → is ≡ fs.position.items → Some i ≡ slice_get is 0 → (fr.around < f) × (fr.around < length t.frames.items)
around_there t f fr fs i is laid h e k c g =
    let p = first_at t f fs i is h k c g in
    let a = (around_is t f (step_of i) p.0 laid h p.1).0 in
    let same = ap (λ (o : Opened). o.around) (frame_as t f fr h e) in
    (omega (arith, a, same), omega (arith, a, same, h))

pub scope_made : (w : Style) (t : Table) (f : ℕ) (fr fs : Frame) (i : Instance) (is : List Instance) (x text : List ℕ)
    → IsLaid t → f < length t.frames.items → fr ≡ get_or t.frames.items f fr → fs ≡ get_or t.frames.items f fs
    → is ≡ fs.position.items → Some i ≡ slice_get is 0
    → x ≡ instance_text w (whole_of t).template (scope_at t fr.around).position (step_of i) → text ≡ inside x
    → text ≡ scope_text w (whole_of t).template (scope_at t f).position
scope_made w t f fr fs i is x text laid h e k c g n m =
    let p = first_at t f fs i is h k c g in
    let around = (around_is t f (step_of i) p.0 laid h p.1).1 in
    let same = ap (λ (o : Opened). o.around) (frame_as t f fr h e) in
    m ∙ ap inside (n ∙ ap (λ (a : ℕ). instance_text w (whole_of t).template (scope_at t a).position (step_of i))
    (sym same) ∙ ap (λ q. instance_text w (whole_of t).template q (step_of i)) around)
    ∙ inside_is w (whole_of t).template p.0 (scope_at t f).position (step_of i) p.1

pub root_made : (w : Style) (t : Table) (f : ℕ) (fs : Frame) (is : List Instance) (text : List ℕ)
    → f < length t.frames.items → fs ≡ get_or t.frames.items f fs → is ≡ fs.position.items → None ≡ slice_get is 0
    → text ≡ [] → text ≡ scope_text w (whole_of t).template (scope_at t f).position
root_made w t f fs is text h k c g e =
    e ∙ root_is w (whole_of t).template (scope_at t f).position (none_at t f fs is h k c g)

-- the loop of a resource of a frame
pub loop_is : (t : Table) (f r : ℕ) (fr : Frame) (l : code.Listed) → IsLaid t → f < length t.frames.items
    → fr ≡ get_or t.frames.items f fr → r < length fr.resources.items → l ≡ get_or fr.resources.items r l
    → l.declaration.now.copy ≡ loop_in (slice_get (resources_in (template_tree fr.template.now)) r)
loop_is t f r fr l laid h e n g =
    let o : opened_of fr ≡ scope_at t f = sym (frame_as t f fr h e) in
    let kept = (laid.kept f (scopes_there t f h)).resources in
    let all : map listed_of fr.resources.items ≡ resources_in (template_tree fr.template.now) =
    ap (λ (x : Opened). x.resources) o ∙ kept ∙ ap (λ (x : Opened). resources_in x.template) (sym o) in
    ap loop_in (sym (listed_here fr.resources.items r l n g)) ∙ ap (λ xs. loop_in (slice_get xs r)) all
  where
    listed_here : (ls : List code.Listed) (k : ℕ) (y : code.Listed) → k < length ls → y ≡ get_or ls k y
        → slice_get (map listed_of ls) k ≡ Some (listed_of y)
    listed_here [] k y h e = absurd (omega (arith, h))
    listed_here (z ∷ zs) zero y h e = ap (λ (x : code.Listed). Some (listed_of x)) (sym e)
    listed_here (z ∷ zs) (suc k) y h e = listed_here zs k y (omega (arith, h)) e
