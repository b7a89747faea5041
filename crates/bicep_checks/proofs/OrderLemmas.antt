-- Faults kind by kind.
use Rattle.std.proofs.Common.{◌≡◌, ◌+◌, inl, inr, ℕ, zero, suc, List, Some, None, refl, arith}
use Rattle.std.specs.Prelude.{Result, Ok, Err, IfErr, OnOk}
use Rattle.foundation.proofs.Comparisons.{lt_or_is}
use Rattle.bicep_program.specs.Program.{ProgramFile}
use Rattle.bicep_arguments.specs.declared.fault.ArgumentFault.{ArgumentFault}
use Rattle.bicep_arguments.specs.declared.fault.ArgumentFault.TheVariants as argument
use Rattle.resolved_program.specs.Programs.{ResolvedFileTree, IsResolved}
use Rattle.resolved_program.specs.Faults.{first_in, twice_of, IsFirst as IsFirstName}
use Rattle.resolved_program.specs.declared.fault.ResolveFault.{ResolveFault}
use Rattle.resolved_program.specs.declared.fault.ResolveFault.TheVariants as name
use Rattle.bicep_checks.specs.Faults.{HasFault, decorator_in, text_place, link_place, state_place, either}
use Rattle.bicep_checks.specs.Faults.{argument_fault}
use Rattle.bicep_checks.specs.Order.{rank, HasNone, IsFirst, IsAnswer}
use Rattle.bicep_checks.specs.Steps.{AreFree, IsCircleFault, as_argument, as_name}
use Rattle.bicep_checks.specs.declared.fault.CheckFault.{CheckFault}
use Rattle.bicep_checks.specs.declared.fault.CheckFault.TheVariants as fault
use Rattle.bicep_checks.proofs.FaultLemmas.{of_file, of_none, none_unknown, of_unknown, of_circle, none_circle}
use Rattle.bicep_checks.proofs.FaultLemmas.{of_place, none_place}

module _ (files : List ProgramFile) where
  -- no fault of that kind holds
  abbrev NoneOf : ℕ → Type 0
  NoneOf n = (other : CheckFault) → rank other ≡ n → ¬ HasFault files other

  none_before : HasNone 0 files
  none_before other r h = absurd (omega (arith, r))

  -- one kind more
  more : (n : ℕ) → HasNone n files → NoneOf n → HasNone (n + 1) files
  more n before here other r h =
      elim (lt_or_is (rank other) n r) [ inl p ↦ before other p h | inr e ↦ here other e h ]

  -- ---- names

  none_twice : first_in twice_of files ≡ None → NoneOf 0
  none_twice e (fault.NameTwice k at) r h = of_none twice_of files e k at h
  none_twice e (fault.UnknownName k at) r h = absurd (omega (arith, r))
  none_twice e (fault.SymbolCycle k names) r h = absurd (omega (arith, r))
  none_twice e (fault.BadDecorator k at) r h = absurd (omega (arith, r))
  none_twice e (fault.BadForPlace k at) r h = absurd (omega (arith, r))
  none_twice e (fault.MissingModuleParameter k at) r h = absurd (omega (arith, r))
  none_twice e (fault.ExtraModuleParameter k at) r h = absurd (omega (arith, r))
  none_twice e fault.OutOfMemory r h = h

  none_unknown_of : (rs : List ResolvedFileTree) → IsResolved files rs → NoneOf 1
  none_unknown_of rs e (fault.NameTwice k at) r h = absurd (omega (arith, r))
  none_unknown_of rs e (fault.UnknownName k at) r h = none_unknown files rs e k at h
  none_unknown_of rs e (fault.SymbolCycle k names) r h = absurd (omega (arith, r))
  none_unknown_of rs e (fault.BadDecorator k at) r h = absurd (omega (arith, r))
  none_unknown_of rs e (fault.BadForPlace k at) r h = absurd (omega (arith, r))
  none_unknown_of rs e (fault.MissingModuleParameter k at) r h = absurd (omega (arith, r))
  none_unknown_of rs e (fault.ExtraModuleParameter k at) r h = absurd (omega (arith, r))
  none_unknown_of rs e fault.OutOfMemory r h = h

  pub names_none : (rs : List ResolvedFileTree) → first_in twice_of files ≡ None → IsResolved files rs
      → HasNone 2 files
  names_none rs t h = more 1 (more 0 none_before (none_twice t)) (none_unknown_of rs h)

  pub name_first : (x : ResolveFault) → IsFirstName files x → IsAnswer files (as_name x)
  name_first (name.Twice k at) h = (of_file twice_of files k at h, none_before)
  name_first (name.Unknown k at) h = (of_unknown files k at h.1, more 0 none_before (none_twice h.0))
  name_first name.OutOfMemory h = tt

  -- ---- circles

  none_circle_of : (rs : List ResolvedFileTree) → IsResolved files rs → AreFree rs → NoneOf 2
  none_circle_of rs e free (fault.NameTwice k at) r h = absurd (omega (arith, r))
  none_circle_of rs e free (fault.UnknownName k at) r h = absurd (omega (arith, r))
  none_circle_of rs e free (fault.SymbolCycle k names) r h = none_circle files rs e free k names h
  none_circle_of rs e free (fault.BadDecorator k at) r h = absurd (omega (arith, r))
  none_circle_of rs e free (fault.BadForPlace k at) r h = absurd (omega (arith, r))
  none_circle_of rs e free (fault.MissingModuleParameter k at) r h = absurd (omega (arith, r))
  none_circle_of rs e free (fault.ExtraModuleParameter k at) r h = absurd (omega (arith, r))
  none_circle_of rs e free fault.OutOfMemory r h = h

  circles_none : (rs : List ResolvedFileTree) → IsResolved files rs → HasNone 2 files → AreFree rs
      → HasNone 3 files
  circles_none rs h before free = more 2 before (none_circle_of rs h free)

  circle_first : (rs : List ResolvedFileTree) → IsResolved files rs → HasNone 2 files → (x : CheckFault)
      → IsCircleFault rs x → IsAnswer files x
  circle_first rs h before (fault.SymbolCycle k names) c = (of_circle files rs h k names c, before)
  circle_first rs h before fault.OutOfMemory c = tt
  circle_first rs h before (fault.NameTwice k at) c = absurd c
  circle_first rs h before (fault.UnknownName k at) c = absurd c
  circle_first rs h before (fault.BadDecorator k at) c = absurd c
  circle_first rs h before (fault.BadForPlace k at) c = absurd c
  circle_first rs h before (fault.MissingModuleParameter k at) c = absurd c
  circle_first rs h before (fault.ExtraModuleParameter k at) c = absurd c

  pub circle_answer : {A : Type 0} (rs : List ResolvedFileTree) → IsResolved files rs → HasNone 2 files
      → (r : Result A CheckFault) → IfErr r (IsCircleFault rs) → IfErr r (IsAnswer files)
  circle_answer rs h before (Ok x) c = tt
  circle_answer rs h before (Err x) c = circle_first rs h before x c

  pub circles_pass : {A : Type 0} (rs : List ResolvedFileTree) → IsResolved files rs → HasNone 2 files
      → (r : Result A CheckFault) → OnOk r (AreFree rs) → OnOk r (HasNone 3 files)
  circles_pass rs h before (Ok x) free = circles_none rs h before free
  circles_pass rs h before (Err x) free = tt

  -- ---- decorators

  none_decorator_of : first_in decorator_in files ≡ None → NoneOf 3
  none_decorator_of e (fault.NameTwice k at) r h = absurd (omega (arith, r))
  none_decorator_of e (fault.UnknownName k at) r h = absurd (omega (arith, r))
  none_decorator_of e (fault.SymbolCycle k names) r h = absurd (omega (arith, r))
  none_decorator_of e (fault.BadDecorator k at) r h = of_none decorator_in files e k at h
  none_decorator_of e (fault.BadForPlace k at) r h = absurd (omega (arith, r))
  none_decorator_of e (fault.MissingModuleParameter k at) r h = absurd (omega (arith, r))
  none_decorator_of e (fault.ExtraModuleParameter k at) r h = absurd (omega (arith, r))
  none_decorator_of e fault.OutOfMemory r h = h

  pub decorators_none : HasNone 3 files → first_in decorator_in files ≡ None → HasNone 4 files
  decorators_none before e = more 3 before (none_decorator_of e)

  pub decorator_first : HasNone 3 files → (k at : ℕ) → first_in decorator_in files ≡ Some (k, at)
      → IsFirst files (fault.BadDecorator k at)
  decorator_first before k at e = (of_file decorator_in files k at e, before)

  -- ---- places

  none_place_of : (rs : List ResolvedFileTree) → IsResolved files rs
      → either (first_in text_place files) (either (first_in link_place rs) (first_in state_place rs)) ≡ None → NoneOf 4
  none_place_of rs m e (fault.NameTwice k at) r h = absurd (omega (arith, r))
  none_place_of rs m e (fault.UnknownName k at) r h = absurd (omega (arith, r))
  none_place_of rs m e (fault.SymbolCycle k names) r h = absurd (omega (arith, r))
  none_place_of rs m e (fault.BadDecorator k at) r h = absurd (omega (arith, r))
  none_place_of rs m e (fault.BadForPlace k at) r h = none_place files rs m e k at h
  none_place_of rs m e (fault.MissingModuleParameter k at) r h = absurd (omega (arith, r))
  none_place_of rs m e (fault.ExtraModuleParameter k at) r h = absurd (omega (arith, r))
  none_place_of rs m e fault.OutOfMemory r h = h

  pub places_none : (rs : List ResolvedFileTree) → IsResolved files rs → HasNone 4 files
      → either (first_in text_place files) (either (first_in link_place rs) (first_in state_place rs)) ≡ None
      → HasNone 5 files
  places_none rs h before e = more 4 before (none_place_of rs h e)

  pub place_first : (rs : List ResolvedFileTree) → IsResolved files rs → HasNone 4 files → (k at : ℕ)
      → either (first_in text_place files) (either (first_in link_place rs) (first_in state_place rs)) ≡ Some (k, at)
      → IsFirst files (fault.BadForPlace k at)
  place_first rs h before k at e = (of_place files rs h k at e, before)

  -- ---- arguments

  none_argument_of : first_in (argument_fault files) files ≡ None → NoneOf 5
  none_argument_of e (fault.NameTwice k at) r h = absurd (omega (arith, r))
  none_argument_of e (fault.UnknownName k at) r h = absurd (omega (arith, r))
  none_argument_of e (fault.SymbolCycle k names) r h = absurd (omega (arith, r))
  none_argument_of e (fault.BadDecorator k at) r h = absurd (omega (arith, r))
  none_argument_of e (fault.BadForPlace k at) r h = absurd (omega (arith, r))
  none_argument_of e (fault.MissingModuleParameter k at) r h =
      of_none (argument_fault files) files e k (argument.Missing at) h
  none_argument_of e (fault.ExtraModuleParameter k at) r h =
      of_none (argument_fault files) files e k (argument.Extra at) h
  none_argument_of e fault.OutOfMemory r h = h

  pub arguments_none : HasNone 5 files → first_in (argument_fault files) files ≡ None → HasNone 6 files
  arguments_none before e = more 5 before (none_argument_of e)

  pub argument_first : HasNone 5 files → (k : ℕ) (x : ArgumentFault)
      → first_in (argument_fault files) files ≡ Some (k, x) → IsAnswer files (as_argument k x)
  argument_first before k (argument.Missing at) e =
      (of_file (argument_fault files) files k (argument.Missing at) e, before)
  argument_first before k (argument.Extra at) e =
      (of_file (argument_fault files) files k (argument.Extra at) e, before)

  -- ---- all

  pub none_at_all : HasNone 6 files → (x : CheckFault) → ¬ HasFault files x
  none_at_all h (fault.NameTwice k at) = h (fault.NameTwice k at) (omega arith)
  none_at_all h (fault.UnknownName k at) = h (fault.UnknownName k at) (omega arith)
  none_at_all h (fault.SymbolCycle k names) = h (fault.SymbolCycle k names) (omega arith)
  none_at_all h (fault.BadDecorator k at) = h (fault.BadDecorator k at) (omega arith)
  none_at_all h (fault.BadForPlace k at) = h (fault.BadForPlace k at) (omega arith)
  none_at_all h (fault.MissingModuleParameter k at) = h (fault.MissingModuleParameter k at) (omega arith)
  none_at_all h (fault.ExtraModuleParameter k at) = h (fault.ExtraModuleParameter k at) (omega arith)
  none_at_all h fault.OutOfMemory = λ f. f
