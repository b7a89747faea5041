-- Parents of cells, and guarded cells.
use Rattle.std.proofs.Common.{◌≡◌, ◌<◌, suc, Bool, true, false, [], ◌∷◌, Option, Some, None, refl, sym, ap}
use Rattle.std.proofs.Common.{arith}
use Rattle.std.specs.Prelude.{if◌then◌else◌}
use Rattle.arm_value.specs.Json.{Json}
use Rattle.reading.specs.World.{value_in}
use Rattle.reading.specs.Knowledge.{Known, known, absent, missing, told, by_entry}
use Rattle.deploy_cells.specs.Cells.{Position, Cell, parameter, variable, offered, output, count, included}
use Rattle.deploy_cells.specs.Cells.{name, deployments, state, World, opener, parent, admits, admitted}
use Rattle.deploy_cells.specs.Cells.{is_admitted, scope_depth, depth}
use Rattle.deploy_cells.specs.Guarded.{Reads, where_admitted, guarded_by, guarded, told_where, told_by}

some_is : (c d : Cell) → Some c ≡ Some d → depth d ≡ depth c
some_is c d e = let f : c ≡ d = cc in ap depth (sym f)

opener_above : (p : Position) (d : Cell) → opener p ≡ Some d → depth d < scope_depth p
opener_above [] d e = cc
opener_above (s ∷ p) d e = let h : depth d ≡ suc (scope_depth p) = some_is (included p s) d e in omega (arith, h)

pub parent_above : (c d : Cell) → parent c ≡ Some d → depth d < depth c
parent_above (parameter p x) d e = opener_above p d e
parent_above (variable p x) d e = opener_above p d e
parent_above (offered p x) d e = opener_above p d e
parent_above (output p x) d e = let h : depth d ≡ scope_depth p = some_is (offered p x) d e in omega (arith, h)
parent_above (count p r) d e = opener_above p d e
parent_above (included p s) d e =
    let h : depth d ≡ scope_depth p = some_is (count p s.resource) d e in omega (arith, h)
parent_above (name p s) d e =
    let h : depth d ≡ scope_depth p = some_is (count p s.resource) d e in omega (arith, h)
parent_above (deployments p) d e = opener_above p d e
parent_above (state k) d e = cc

where_value : (w : World) (b : Bool) (r : Reads (Option Json))
    → value_in w (where_admitted b r) ≡ (if b then value_in w r else Some None)
unfolding value_in
where_value w true r = refl
where_value w false r = refl

guarded_by_value : (w : World) (c : Cell) (o : Option Cell) (r : Reads (Option Json))
    → value_in w (guarded_by c o r) ≡ (if admitted w c o then value_in w r else Some None)
unfolding value_in
guarded_by_value w c None r = refl
guarded_by_value w c (Some d) r = where_value w (admits c (w d)) r

pub guarded_value : (w : World) (c : Cell) (r : Reads (Option Json))
    → value_in w (guarded c r) ≡ (if is_admitted w c then value_in w r else Some None)
unfolding guarded
guarded_value w c r = guarded_by_value w c (parent c) r

module _ (p : Cell → Known Json) where
  where_told : (b : Bool) (r : Reads (Option Json)) → told p (where_admitted b r) ≡ told_where b (told p r)
  unfolding told
  where_told true r = refl
  where_told false r = refl

  entry_told : (c d : Cell) (r : Reads (Option Json)) (u : Known Json)
      → by_entry d (λ v. told p (where_admitted (admits c v) r)) u
      ≡ by_entry d (λ v. told_where (admits c v) (told p r)) u
  entry_told c d r (known v) = where_told (admits c (Some v)) r
  entry_told c d r absent = where_told (admits c None) r
  entry_told c d r missing = refl

  guarded_by_told : (c : Cell) (o : Option Cell) (r : Reads (Option Json))
      → told p (guarded_by c o r) ≡ told_by p c o (told p r)
  unfolding told
  guarded_by_told c None r = refl
  guarded_by_told c (Some d) r = entry_told c d r (p d)

  pub guarded_told : (c : Cell) (r : Reads (Option Json))
      → told p (guarded c r) ≡ told_by p c (parent c) (told p r)
  unfolding guarded
  guarded_told c r = guarded_by_told c (parent c) r
