-- What is read from a frame.
use Rattle.std.proofs.Common.{◌≡◌, ℕ, zero, suc, ◌<◌, List, [], ◌∷◌, map, length, get_or, Some, refl, sym, ap, ◌∙◌}
use Rattle.std.proofs.Common.{arith}
use Rattle.std.proofs.lemmas.List.{get_or-map, length-map}
use Rattle.std.specs.Prelude.{slice_get}
use Rattle.plan_filling.specs.Resources as cells
use Rattle.plan_table.specs.declared.frame.Frame.{Frame}
use Rattle.plan_table.specs.declared.listed.Listed.{Listed}
use Rattle.plan_table.specs.Listed.{listed_of}
use Rattle.plan_table.specs.Opened.{blank, opened_at, opened_of}
use Rattle.plan_table.specs.Lines.{name_at}
use Rattle.plan_table.proofs.SpotLemmas.{got}

-- a frame that was read
pub frame_is : (fs : List Frame) (f : ℕ) (x : Frame) → f < length fs → x ≡ get_or fs f x
    → opened_at (map opened_of fs) f ≡ opened_of x
frame_is fs f x h e = get_or-map opened_of fs f x blank h ∙ ap opened_of (sym e)

pub open_frame : (fs : List Frame) (f : ℕ) → f < length (map opened_of fs) → f < length fs
open_frame fs f h = let n = length-map fs opened_of in omega (arith, n, h)

-- the name of what was read
pub name_read : {A : Type 0} (g : A → List ℕ) (xs : List A) (n : ℕ) (x : A) → n < length xs → x ≡ get_or xs n x
    → name_at (map g xs) n ≡ g x
name_read g xs n x h e = get_or-map g xs n x [] h ∙ ap g (sym e)

-- a resource that was read
pub resource_read : (xs : List Listed) (r : ℕ) (x : Listed) → r < length xs → x ≡ get_or xs r x
    → slice_get (map listed_of xs) r ≡ Some (listed_of x)
resource_read xs r x h e =
    got (map listed_of xs) r (listed_of x) (let n = length-map xs listed_of in omega (arith, n, h))
    ∙ ap Some (get_or-map listed_of xs r x (listed_of x) h ∙ ap listed_of (sym e))
