-- What a call of a book changes.
use Rattle.std.specs.Prelude.{◌≡◌, ◌≤◌, ℕ, Bool, true, false, List, [], ◌∷◌, ◌++◌, Option, None, Some, Result, Ok, Err}
use Rattle.arm_edges.specs.Faults.{Rose}
use Rattle.provider_trait.specs.Work.{Work}
use Rattle.provider_trait.specs.declared.answer.Answer.{Answer}
use Rattle.dealer_trait.specs.declared.note.Note.{Note}
use Rattle.dealer_trait.specs.declared.book_fault.BookFault.{BookFault}
use Rattle.dealer_trait.specs.declared.book_fault.BookFault.TheVariants.{Full, DiskFault, MustReopen}
use Rattle.dealer_trait.specs.Notes.{note_of}

-- the notes have one more at their end, unless it was refused
abbrev pub Notes : List Note → List Note → Work → Answer → Result (Unit {0}) BookFault → Type 0
Notes old new job answer (Ok u) = new ≡ old ++ note_of job answer ∷ []
Notes old new job answer (Err fault) = new ≡ old

-- the count of refusals rises where a note is refused, and is unchanged elsewhere
abbrev pub Refuses : ℕ → ℕ → Result (Unit {0}) BookFault → Type 0
Refuses before now (Ok u) = now ≡ before
Refuses before now (Err fault) = (before ≤ now) × Rose before now

-- the first refusal after a call, where before it this was the first
abbrev pub first_after : Option BookFault → Result (Unit {0}) BookFault → Option BookFault
first_after None (Ok u) = None
first_after None (Err fault) = Some fault
first_after (Some fault) r = Some fault

-- the count of faults never falls, and the disk has failed only where it rose
abbrev pub CountsFaults : ℕ → ℕ → Result (Unit {0}) BookFault → Type 0
CountsFaults before now (Ok u) = before ≤ now
CountsFaults before now (Err (Full length needed)) = before ≤ now
CountsFaults before now (Err DiskFault) = (before ≤ now) × Rose before now
CountsFaults before now (Err MustReopen) = before ≤ now

-- a book breaks by a fault of its disk and by nothing else, and one that is broken stays so and refuses each note
abbrev pub Breaks : Bool → Bool → Result (Unit {0}) BookFault → Type 0
Breaks was is (Ok u) = (was ≡ false) × (is ≡ false)
Breaks was is (Err (Full length needed)) = (was ≡ false) × (is ≡ false)
Breaks was is (Err DiskFault) = (was ≡ false) × (is ≡ true)
Breaks was is (Err MustReopen) = (was ≡ true) × (is ≡ true)
