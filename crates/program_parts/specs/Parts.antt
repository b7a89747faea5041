-- What the templates of all files are made of, by the numbers of the files.
use Rattle.std.specs.Prelude.{◌≡◌, ◌++◌, ℕ, suc, List, [], ◌∷◌, length}
use Rattle.std.specs.declared.alloc.Global.{Global}
use Rattle.std.specs.declared.vec.Vec.{Vec}
use Rattle.template_parts.specs.declared.mode.Form.{Form}
use Rattle.bicep_program.specs.declared.file.SourceFile.{SourceFile as Text}
use Rattle.resolved_program.specs.declared.resolved.ResolvedFile.{ResolvedFile}
use Rattle.file_templates.specs.Orders.{IsOrderFor}
use Rattle.file_templates.specs.FileOrder.{FileOrder}
pub use Rattle.file_templates.specs.Parts.{ArePartsFor, extremes_of}
use Rattle.file_templates.specs.Texts.{HasLoops, text_of}
use Rattle.file_templates.specs.declared.file.FileParts.{FileParts}
use Rattle.program_parts.specs.Programs.{IsPair}

-- each item is that of its number, from a number on
abbrev pub AllFrom : {A : Type 0} → (ℕ → A → Type 0) → ℕ → List A → Type 0
AllFrom R k [] = Unit {0}
AllFrom R k (x ∷ xs) = R k x × AllFrom R (suc k) xs

-- the items have one more
abbrev pub HasLast : {A : Type 0} → List A → A → List A → Type 0
HasLast xs x all = all ≡ xs ++ x ∷ []

abbrev pub IsEmpty : {A : Type 0} → List A → Type 0
IsEmpty xs = xs ≡ []

-- ---- orders

-- the order of the declarations of the file of a number, and the batches of its loops
pub record IsOrderAt (ss : List Text) (rs : List ResolvedFile) (k : ℕ) (o : FileOrder) : Type 0 where
  pub text : Text
  pub file : ResolvedFile
  pub pair : IsPair ss rs k text file
  pub order : IsOrderFor file o
  pub loops : HasLoops (text_of text) file o

-- the orders of the first files
abbrev pub AreOrders : List Text → List ResolvedFile → List FileOrder → Type 0
AreOrders ss rs os = AllFrom (IsOrderAt ss rs) 0 os

abbrev pub HaveOneMoreOrder : List Text → List ResolvedFile → List FileOrder → Vec FileOrder Global → Type 0
HaveOneMoreOrder ss rs os v = AreOrders ss rs v.items × (length v.items ≡ suc (length os))

-- the orders of all files
abbrev pub AreOrdersOfAll : List Text → List ResolvedFile → List FileOrder → Type 0
AreOrdersOfAll ss rs os = AreOrders ss rs os × (length os ≡ length rs)

abbrev pub AreAllOrders : List Text → List ResolvedFile → Vec FileOrder Global → Type 0
AreAllOrders ss rs v = AreOrdersOfAll ss rs v.items

-- ---- parts

-- the parts of the file of a number, for a form
pub record IsPartAt (z : Form) (ss : List Text) (rs : List ResolvedFile) (k : ℕ) (p : FileParts) : Type 0 where
  pub text : Text
  pub file : ResolvedFile
  pub pair : IsPair ss rs k text file
  pub parts : ArePartsFor z (text_of text) file rs p

-- the parts of the first files
abbrev pub AreParts : Form → List Text → List ResolvedFile → List FileParts → Type 0
AreParts z ss rs ps = AllFrom (IsPartAt z ss rs) 0 ps

-- the order is that of the next file
abbrev pub IsNextOrder : List Text → List ResolvedFile → List FileParts → FileOrder → Type 0
IsNextOrder ss rs ps o = IsOrderAt ss rs (length ps) o

abbrev pub HaveOneMorePart : Form → List Text → List ResolvedFile → List FileParts → Vec FileParts Global → Type 0
HaveOneMorePart z ss rs ps v = AreParts z ss rs v.items × (length v.items ≡ suc (length ps))

-- the parts of all files
abbrev pub ArePartsOfAll : Form → List Text → List ResolvedFile → List FileParts → Type 0
ArePartsOfAll z ss rs ps = AreParts z ss rs ps × (length ps ≡ length rs)

abbrev pub AreAllParts : Form → List Text → List ResolvedFile → Vec FileParts Global → Type 0
AreAllParts z ss rs v = ArePartsOfAll z ss rs v.items
