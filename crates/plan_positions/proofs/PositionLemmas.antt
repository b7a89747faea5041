-- The texts of positions, part after part.
use Rattle.std.proofs.Common.{◌≡◌, ℕ, zero, suc, ◌<◌, ◌^◌, List, [], ◌∷◌, ◌++◌, map, length, get_or, Option, Some}
use Rattle.std.proofs.Common.{Bool, true, false, ltb}
use Rattle.std.proofs.Common.{chars, codes}
use Rattle.std.proofs.Common.{decimal, sym, ap, ap₂, ◌∙◌, lit<, arith, append_assoc}
use Rattle.std.specs.Prelude.{slice_get, option_map}
use Rattle.std.specs.Str.{IsAscii}
use Rattle.std.proofs.lemmas.Bool.{ltb-false}
use Rattle.std.proofs.lemmas.List.{append-nil, length-map}
use Rattle.std.proofs.lemmas.Option.{slice_get-map, slice_get_past}
use Rattle.std.proofs.lemmas.Str.{chars-IsAscii, IsAscii-append}
use Rattle.std.proofs.lemmas.Fmt.{IsAscii-decimal}
use Rattle.foundation.proofs.AsciiWords.{one_ascii}
use Rattle.foundation.proofs.Comparisons.{lt_of_true}
use Rattle.template_parts.specs.declared.looping.ResourceCopy.{ResourceCopy}
use Rattle.template_tree.specs.View.{template_tree}
use Rattle.deploy_cells.specs.Cells.{Step}
use Rattle.plan_cells.specs.Resources.{resources_in}
use Rattle.plan_table.specs.declared.frame.Frame.{Frame}
use Rattle.plan_table.specs.declared.listed.Listed as code
use Rattle.plan_table.specs.declared.table.Table.{Table}
use Rattle.plan_table.specs.Listed.{listed_of}
use Rattle.plan_table.specs.Opened.{Opened, opened_of}
use Rattle.plan_table.specs.Whole.{whole_of, IsLaid}
use Rattle.plan_table.specs.Found.{scope_at}
use Rattle.plan_table.proofs.FrameLemmas.{frame_is}
use Rattle.plan_paths.specs.Resources.{path_at}
use Rattle.plan_paths.specs.Texts.{a_position, index_of, loop_in, scope_text, instance_text}
use Rattle.plan_paths.proofs.TextLemmas.{instance_is}

-- `[i]`
pub index_is : (bytes : List ℕ) (i : ℕ) (c : ResourceCopy) → i < 2 ^ 64
    → bytes ≡ codes "[" ++ (decimal i ++ codes "]") → chars bytes ≡ index_of (Some c) i
index_is bytes i c h e =
    ap chars e
    ∙ chars-IsAscii (codes "[" ++ (decimal i ++ codes "]"))
    (IsAscii-append (codes "[") (decimal i ++ codes "]") (one_ascii 91 (lit< tt))
    (IsAscii-append (decimal i) (codes "]") (IsAscii-decimal i h) (one_ascii 93 (lit< tt))))

-- the loop of a resource that the code reads
listed_here : (xs : List code.Listed) (r : ℕ) (l : code.Listed) → r < length xs → l ≡ get_or xs r l
    → slice_get (map listed_of xs) r ≡ Some (listed_of l)
listed_here [] r l h e = absurd (omega (arith, h))
listed_here (x ∷ xs) zero l h e = ap (λ (y : code.Listed). Some (listed_of y)) (sym e)
listed_here (x ∷ xs) (suc r) l h e = listed_here xs r l (omega (arith, h)) e

pub loop_read : (all xs : List code.Listed) (r : ℕ) (l : code.Listed) → xs ≡ all → true ≡ ltb r (length xs)
    → l ≡ get_or xs r l → l.declaration.now.copy ≡ loop_in (slice_get (map listed_of all) r)
loop_read all xs r l a h e =
    ap loop_in (sym (listed_here xs r l (lt_of_true r (length xs) (sym h)) e))
    ∙ ap (λ ys. loop_in (slice_get (map listed_of ys) r)) a

-- there is none
pub no_loop : (all xs : List code.Listed) (r i : ℕ) (text : List ℕ) → xs ≡ all → false ≡ ltb r (length xs)
    → text ≡ text ++ index_of (loop_in (slice_get (map listed_of all) r)) i
no_loop all xs r i text a h =
    sym (append-nil text)
    ∙ ap (λ o. text ++ index_of (loop_in o) i)
    (sym (slice_get-map listed_of xs r ∙ ap (option_map listed_of) (slice_get_past xs r (ltb-false _ _ (sym h)))))
    ∙ ap (λ ys. text ++ index_of (loop_in (slice_get (map listed_of ys) r)) i) a

-- an instance of a scope
pub instance_made : (t : Table) (f : ℕ) (s : Step) (fr : Frame) (scope first path second last : List ℕ)
    → IsLaid t → f < length t.frames.items → fr ≡ get_or t.frames.items f fr
    → scope ≡ scope_text a_position (whole_of t).template (scope_at t f).position
    → first ≡ scope ++ path → path ≡ path_at (template_tree fr.template.now) s.resource
    → second ≡ first ++ index_of (loop_in (slice_get (map listed_of fr.resources.items) s.resource)) s.copy
    → last ≡ second
    → last ≡ instance_text a_position (whole_of t).template (scope_at t f).position s
instance_made t f s fr scope first path second last laid h e a b c d m =
    let x = index_of (loop_in (slice_get (map listed_of fr.resources.items) s.resource)) s.copy in
    m ∙ d ∙ ap (λ y. y ++ x) b ∙ append_assoc scope path x
    ∙ ap₂ (λ y z. y ++ z) a (ap₂ (λ y z. y ++ index_of (loop_in (slice_get z s.resource)) s.copy) c resources)
    ∙ instance_is a_position t f s fr laid h e
  where
    o : opened_of fr ≡ scope_at t f
    o = sym (frame_is t.frames.items f fr h e)

    resources : map listed_of fr.resources.items ≡ resources_in (template_tree fr.template.now)
    resources =
        ap (λ (y : Opened). y.resources) o
        ∙ (laid.kept f (let n = length-map t.frames.items opened_of in omega (arith, n, h))).resources
        ∙ ap (λ (y : Opened). resources_in y.template) (sym o)
