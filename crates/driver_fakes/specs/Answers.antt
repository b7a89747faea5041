-- What a book in memory answers.
use Rattle.std.specs.Prelude.{ℕ, nat_lt, min, Bool, if◌then◌else◌, Result, Ok, Err}
use Rattle.dealer_trait.specs.declared.book_fault.BookFault.{BookFault}
use Rattle.dealer_trait.specs.declared.book_fault.BookFault.TheVariants.{Full, DiskFault, MustReopen}

-- what the answer to a note depends on; lengths are in bytes
pub record Case : Type 0 where
  -- whether an earlier note failed by a fault of the disk
  pub is_broken : Bool
  -- whether the call is one of those that fail
  pub is_listed : Bool
  -- the length of the book, and its length with the note
  pub length : ℕ
  pub needed : ℕ
  pub room : ℕ

-- the answer by the room alone: a book has no room where its length with the note is above it
abbrev pub room_answer : ℕ → ℕ → ℕ → Result (Unit {0}) BookFault
room_answer length needed room =
    if nat_lt room needed then Err (Full length (min needed 18446744073709551615)) else Ok tt

-- the answer in each case
abbrev pub answer_in : Case → Result (Unit {0}) BookFault
answer_in c =
    if c.is_broken then Err MustReopen else
    (if c.is_listed then Err DiskFault else room_answer c.length c.needed c.room)
