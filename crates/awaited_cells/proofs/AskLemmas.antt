-- Each cell that a reading asks for.
use Rattle.std.proofs.Common.{◌≡◌, Option, Some, None, refl, sym, subst, ◌∙◌}
use Rattle.arm_value.specs.Json.{Json}
use Rattle.arm_env.specs.Look.{Look, Fact, Looking}
use Rattle.reading.specs.Reading.{done, ask, onward, continued}
use Rattle.reading.specs.Knowledge.{Known, known, absent, missing, Told, waits, finished, by_entry, told}
use Rattle.deploy_cells.specs.Cells.{Cell}
use Rattle.deploy_cells.specs.Followed.{followed}
use Rattle.deploy_cells.specs.Guarded.{Reads}
use Rattle.plan_cells.specs.Known.{Table}

-- it holds of each cell that the reading asks for, whatever the cells before have
abbrev pub Asks : {A : Type 0} → (Cell → Type 0) → Reads A → Type 0
Asks P (done o) = Unit {0}
Asks P (ask c k) = P c × ((v : Option Json) → Asks P (k v))

pub weakened : {A : Type 0} (P Q : Cell → Type 0) → ((c : Cell) → P c → Q c) → (r : Reads A) → Asks P r → Asks Q r
weakened P Q f (done o) h = tt
weakened P Q f (ask c k) h = (f c h.0, λ v. weakened P Q f (k v) (h.1 v))

module _ (P : Cell → Type 0) where
  module _ {A B : Type 0} where
    onward_asks : (o : Option A) (f : A → Reads B) → ((a : A) → Asks P (f a)) → Asks P (onward o f)
    onward_asks None f h = tt
    onward_asks (Some a) f h = h a

    pub continued_asks : (r : Reads A) (f : A → Reads B) → Asks P r → ((a : A) → Asks P (f a))
        → Asks P (continued r f)
    unfolding continued
    continued_asks (done o) f a h = onward_asks o f h
    continued_asks (ask c k) f a h = (a.0, λ v. continued_asks (k v) f (a.1 v) h)

  pub followed_asks : {A : Type 0} (h : Look → Reads (Option Fact)) (r : Looking A) → ((c : Look) → Asks P (h c))
      → Asks P (followed h r)
  unfolding followed
  followed_asks h (done o) f = tt
  followed_asks h (ask c k) f =
      continued_asks (h c) (λ v. followed h (k v)) (f c) (λ v. followed_asks h (k v) f)

  module _ {A : Type 0} (t : Table) where
    no_cell : (o : Option A) (c : Cell) → finished o ≡ waits c → P c
    no_cell (Some a) c e = cc
    no_cell None c e = cc

    same_cell : (b c : Cell) → P b → (z : Told Cell A) → z ≡ waits b → z ≡ waits c → P c
    same_cell b c h z e f = let q : b ≡ c = (let g = sym e ∙ f in cc) in subst P q h

    by_known : (b c : Cell) (k : Option Json → Reads A) → P b → (e : Known Json)
        → ((v : Option Json) → told t (k v) ≡ waits c → P c) → by_entry b (λ v. told t (k v)) e ≡ waits c → P c
    by_known b c k h (known v) f e = f (Some v) e
    by_known b c k h absent f e = f None e
    by_known b c k h missing f e = same_cell b c h (by_entry b (λ v. told t (k v)) missing) refl e

    -- it holds of the cell that the reading waits for
    pub awaited_has : (r : Reads A) (c : Cell) → Asks P r → told t r ≡ waits c → P c
    unfolding told
    awaited_has (done o) c a e = no_cell o c e
    awaited_has (ask b k) c a e = by_known b c k a.0 (t b) (λ v. awaited_has (k v) c (a.1 v)) e
