-- How a part is looked for in a text that is read once (Knuth, Morris and Pratt).
use Rattle.std.specs.Prelude.{ℕ, ◌+◌, ◌-◌, ◌<◌, ◌≤◌, ◌≡◌, true, false, List, length, drop, get_or, Option, Some}
use Rattle.std.specs.Prelude.{None, option_map}
use Rattle.function_lists.specs.Items.{or_found, here}
use Rattle.function_texts.specs.Places.{begins}
use Rattle.function_texts.specs.Cuts.{delimiter_at}

-- the first n characters of the part are the last n before a place of the text
pub record EndAt (part text : List ℕ) (place n : ℕ) : Type 0 where
  pub room : n ≤ place
  pub same : (i : ℕ) → i < n → get_or part i 0 ≡ get_or text (place - n + i) 0

-- of the counts up to a limit, n is the greatest for which this is so
pub record IsLongest (part text : List ℕ) (place limit n : ℕ) : Type 0 where
  pub ends : EndAt part text place n
  pub within : n ≤ limit
  pub greatest : (m : ℕ) → m ≤ limit → EndAt part text place m → m ≤ n

-- at each count of characters of the part but 0: how many fewer, at most, are both the first and the last of them
pub record AreBorders (part borders : List ℕ) : Type 0 where
  pub each : (k : ℕ) → 0 < k → k < length borders → IsLongest part part k (k - 1) (get_or borders k 0)

-- the part has the character at the place
pub record HasAt (part : List ℕ) (place character : ℕ) : Type 0 where
  pub inside : place < length part
  pub is : get_or part place 0 ≡ character

-- n characters of the part are the last of its first k, and the character is next
pub record GoesOn (part : List ℕ) (k character n : ℕ) : Type 0 where
  pub ends : EndAt part part k n
  pub next : HasAt part n character

-- where the first k characters of the part were read last, and now the character, the first n are the last that were
-- read
pub record IsNext (part : List ℕ) (k character n : ℕ) : Type 0 where
  pub greatest : (m : ℕ) → GoesOn part k character m → m < n
  pub reached : 0 < n → GoesOn part k character (n - 1)

-- the part has not begun at a place from which it ends before the place that is read next
pub record HasNotBegun (part text : List ℕ) (read : ℕ) : Type 0 where
  pub nowhere : (place : ℕ) → place + length part ≤ read → begins part (drop place text) ≡ false

-- the least place at which the part begins, if there is one
abbrev pub IsFirst : List ℕ → List ℕ → Option ℕ → Type 0
IsFirst part text None = (place : ℕ) → place ≤ length text → begins part (drop place text) ≡ false
IsFirst part text (Some first) =
    (first ≤ length text) × (begins part (drop first text) ≡ true)
    × ((place : ℕ) → place < first → begins part (drop place text) ≡ false)

-- the last place from which the part ends before the place that is read next, if there is one
abbrev pub IsLastBegun : List ℕ → List ℕ → ℕ → Option ℕ → Type 0
IsLastBegun part text read None = HasNotBegun part text read
IsLastBegun part text read (Some last) =
    (last + length part ≤ read) × (begins part (drop last text) ≡ true)
    × ((place : ℕ) → last < place → place + length part ≤ read → begins part (drop place text) ≡ false)

-- at each place of the text the length of the first delimiter that begins there
pub record AreMarks (ds : List (List ℕ)) (text : List ℕ) (marks : List (Option ℕ)) : Type 0 where
  pub count : length marks ≡ length text
  pub each : (place : ℕ) → place < length text
      → get_or marks place None ≡ option_map length (delimiter_at ds (drop place text))

-- the part's length is put at each place where it begins and nothing was put
pub record AreMarked (part text : List ℕ) (old new : List (Option ℕ)) : Type 0 where
  pub count : length new ≡ length old
  pub each : (place : ℕ) → place < length text
      → get_or new place None ≡ or_found (get_or old place None)
      (here (begins part (drop place text)) (length part))

-- the same once so many characters of the text were read
pub record AreMarkedBefore (part text : List ℕ) (read : ℕ) (old new : List (Option ℕ)) : Type 0 where
  pub count : length new ≡ length old
  pub ended : (place : ℕ) → place + length part ≤ read
      → get_or new place None ≡ or_found (get_or old place None)
      (here (begins part (drop place text)) (length part))
  pub open_still : (place : ℕ) → read < place + length part → get_or new place None ≡ get_or old place None

-- the first place from a place on that has a mark, and that mark
pub record IsNextMark (marks : List (Option ℕ)) (from place length_there : ℕ) : Type 0 where
  pub later : from ≤ place
  pub within : place < length marks
  pub there : get_or marks place None ≡ Some length_there
  pub none_before : (p : ℕ) → from ≤ p → p < place → get_or marks p None ≡ None
