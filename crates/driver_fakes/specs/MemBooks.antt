-- What a book in memory has.
use Rattle.std.specs.Prelude.{ℕ, ◌+◌, ◌*◌, List, length, if◌then◌else◌}
use Rattle.arm_edges.specs.Calls.{after_call, is_listed}
use Rattle.arm_edges.specs.declared.calls.Calls.{Calls}
use Rattle.provider_trait.specs.Work.{Work}
use Rattle.provider_trait.specs.declared.answer.Answer.{Answer}
use Rattle.dealer_trait.specs.Kinds.{second_of}
use Rattle.dealer_trait.specs.declared.note.Note.{Note}
use Rattle.driver_fakes.specs.Answers.{Case}
use Rattle.driver_fakes.specs.Kept.{notes_in}
use Rattle.driver_fakes.specs.declared.mem_book.MemBook.{MemBook}

-- its notes, oldest first
abbrev pub notes_of : MemBook → List Note
notes_of book = notes_in book.entries.items book.bytes.items

-- its length in bytes: each note has 18 and its parts
abbrev pub length_of : MemBook → ℕ
length_of book = 18 * length book.entries.items + length book.bytes.items

-- how many bytes the note of a job and its answer takes
abbrev pub size_of_note : Work → Answer → ℕ
size_of_note job answer = 18 + length job.first + length (second_of answer)

-- the case of a note
abbrev pub case_of : MemBook → Work → Answer → Case
case_of book job answer =
    record {
      is_broken = book.is_broken;
      is_listed = is_listed book.calls.fails.items book.calls.made;
      length = length_of book;
      needed = length_of book + size_of_note job answer;
      room = book.room;
    }

-- its calls after a note: one more, unless the book is broken
abbrev pub calls_after : MemBook → Calls
calls_after book = if book.is_broken then book.calls else after_call book.calls
