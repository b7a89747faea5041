-- What is required of a declaration that can be built.
use Rattle.std.proofs.Common.{◌≡◌, ◌⊎◌, inl, inr, ℕ, Bool, true, false, Option, Some, None, ◌∙◌, subst}
use Rattle.bicep_tree.specs.declared.leaf.Quoted.{Quoted}
use Rattle.bicep_tree.specs.declared.leaf.TypeName.{TypeName}
use Rattle.bicep_resolved.specs.declared.source.Source.{Source}
use Rattle.bicep_resolved.specs.declared.source.SourceValue.{SourceValue}
use Rattle.bicep_declared.specs.Declarations.{BodyTree, DeclaredTree}
use Rattle.bicep_declared.specs.Declarations as d
use Rattle.bicep_declared.specs.View.{declared_tree}
use Rattle.bicep_declared.specs.declared.declared.Declared.{Declared}
use Rattle.bicep_declared.specs.declared.declared.Declared.TheVariants as declared
use Rattle.bicep_meaning.specs.Files.{declaration}
use Rattle.emitted_modules.specs.Seen.{Shape, file_in}
use Rattle.emitted_modules.specs.Limits.{MembersFit, members_at}
use Rattle.file_resources.specs.Fits.{FitsBy, ArgumentsFitAt, HasTemplate, IsResourceBy, MayBeBuilt}

module _ (s : Shape) (n : ℕ) (given : Bool) (built : MayBeBuilt s n given) where
  pub members_fit : (at : ℕ) (q : Quoted) (b : BodyTree)
      → declaration (file_in s) n ≡ Some (d.a_resource at q false b) → MembersFit (members_at s n b)
  members_fit at q b is = subst (FitsBy s n) is built.fits

  pub arguments_fit : (at : ℕ) (b : BodyTree) → declaration (file_in s) n ≡ Some (d.a_module at b)
      → ArgumentsFitAt s n b
  arguments_fit at b is = subst (FitsBy s n) is built.fits

  pub has_template : (at : ℕ) (b : BodyTree) → declaration (file_in s) n ≡ Some (d.a_module at b) → given ≡ true
  has_template at b is = subst (λ e. HasTemplate e given) is built.has_template

-- what is not there is that of no resource
pub not_there : (o q : Option DeclaredTree) → q ≡ o → o ≡ None → IsResourceBy q → ⊥
not_there o q e n h = subst IsResourceBy (e ∙ n) h

-- a declaration of a parameter or a variable
abbrev pub IsOther : Declared → Type 0
IsOther c =
    ((at : ℕ) × (t : TypeName) × (c ≡ declared.Parameter at t))
    ⊎ (((at : ℕ) × (t : TypeName) × (v : Source) × (c ≡ declared.ParameterWith at t v))
    ⊎ ((at : ℕ) × (v : SourceValue) × (c ≡ declared.Variable at v)))

-- is that of no resource
pub no_resource : (c : Declared) → IsResourceBy (Some (declared_tree c)) → IsOther c → ⊥
no_resource c h (inl (at, t, e)) = subst (λ x. IsResourceBy (Some (declared_tree x))) e h
no_resource c h (inr (inl (at, t, v, e))) = subst (λ x. IsResourceBy (Some (declared_tree x))) e h
no_resource c h (inr (inr (at, v, e))) = subst (λ x. IsResourceBy (Some (declared_tree x))) e h
