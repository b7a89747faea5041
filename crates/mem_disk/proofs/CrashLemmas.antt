-- What a crash leaves of a part, call by call.
use Rattle.std.proofs.Common.{◌≡◌, ℕ, ◌+◌, ◌≤◌, List, [], ◌∷◌, ◌++◌, length, take, drop, refl, sym, ◌∙◌, ap, subst}
use Rattle.std.proofs.Common.{arith, append_assoc}
use Rattle.std.proofs.lemmas.List.{drop_all, drop-drop, append-nil}
use Rattle.arm_edges.specs.declared.disk.Part.{Part}
use Rattle.arm_edges.specs.declared.disk.Part.TheVariants.{A, B}
use Rattle.mem_disk.specs.declared.change.Entry.{Entry}
use Rattle.mem_disk.specs.Moves.{Move, Step, wrote, tore, shortened, tore_off, synced, moves_on, read_after}
use Rattle.mem_disk.specs.Moves.{reads_after, image_after, left_after, Leaves, Walks}
use Rattle.mem_disk.specs.Log.{size_of, move_of, steps_of, total}
use Rattle.mem_disk.specs.ReadImages.{reads_left}
use Rattle.mem_disk.proofs.MoveLemmas.{reads-push, push-images}
use Rattle.mem_disk.proofs.StepLemmas.{moves_on-push}

leaves_image : (move : Move) (now : List ℕ) (set : List ℕ → Type 0) (before after : List ℕ) → set before → set now
    → Leaves move now before after → image_after move (read_after move now) set after
leaves_image (wrote at bytes) now set before after s n torn = (before, s, torn)
leaves_image (tore at bytes) now set before after s n torn = (before, s, torn)
leaves_image (shortened k) now set before after s n cut = (before, s, cut)
leaves_image (tore_off k) now set before after s n cut = (before, s, cut)
leaves_image synced now set before after s n is = (subst set (sym is) n, is)

-- so far a read of the part returns now, and a crash may leave left of it
pub record Walked (part : Part) (first : List ℕ) (steps : List Step) (now left : List ℕ) : Type 0 where
  pub reads : now ≡ reads_after (moves_on part steps) first
  pub image : left_after first (moves_on part steps) left

walked_move : (part : Part) (first : List ℕ) (steps : List Step) (step : Step) (move : Move)
    (now new_now left new_left : List ℕ) → moves_on part (steps ++ step ∷ []) ≡ moves_on part steps ++ move ∷ []
    → Walked part first steps now left → new_now ≡ read_after move now → Leaves move now left new_left
    → Walked part first (steps ++ step ∷ []) new_now new_left
walked_move part first steps step move now new_now left new_left is w reads leaves =
    let moves = moves_on part steps in
    let set : List ℕ → Type 0 = left_after first moves in
    record {
      reads = reads ∙ ap (λ (l : List ℕ). read_after move l) w.reads ∙ sym (reads-push moves move first)
          ∙ ap (λ (l : List Move). reads_after l first) (sym is);
      image =
          subst (λ (l : List Move). left_after first l new_left) (sym is)
          (push-images moves move first (λ (file : List ℕ). file ≡ first) new_left
          (subst (λ (l : List ℕ). image_after move (read_after move l) set new_left) w.reads
          (leaves_image move now set left new_left w.image (reads_left first moves now w.reads) leaves)));
    }

walked_still : (part : Part) (first : List ℕ) (steps : List Step) (step : Step) (now new_now left new_left : List ℕ)
    → moves_on part (steps ++ step ∷ []) ≡ moves_on part steps ++ []
    → Walked part first steps now left → new_now ≡ now → new_left ≡ left
    → Walked part first (steps ++ step ∷ []) new_now new_left
walked_still part first steps step now new_now left new_left is w reads leaves =
    let same : moves_on part (steps ++ step ∷ []) ≡ moves_on part steps = is ∙ append-nil (moves_on part steps) in
    record {
      reads = reads ∙ w.reads ∙ ap (λ (l : List Move). reads_after l first) (sym same);
      image =
          subst (λ (l : List Move). left_after first l new_left) (sym same)
          (subst (λ (file : List ℕ). left_after first (moves_on part steps) file) (sym leaves) w.image);
    }

pub walked_on : (part other : Part) (move : Move) (first : List ℕ) (steps : List Step)
    (now new_now left new_left : List ℕ)
    → Walked part first steps now left → Walks part other move now new_now left new_left
    → Walked part first (steps ++ (other, move) ∷ []) new_now new_left
walked_on A A move first steps now new_now left new_left w h =
    walked_move A first steps (A, move) move now new_now left new_left (moves_on-push A steps (A, move)) w h.0 h.1
walked_on A B move first steps now new_now left new_left w h =
    walked_still A first steps (B, move) now new_now left new_left (moves_on-push A steps (B, move)) w h.0 h.1
walked_on B A move first steps now new_now left new_left w h =
    walked_still B first steps (A, move) now new_now left new_left (moves_on-push B steps (A, move)) w h.0 h.1
walked_on B B move first steps now new_now left new_left w h =
    walked_move B first steps (B, move) move now new_now left new_left (moves_on-push B steps (B, move)) w h.0 h.1

-- the entries up to some place were walked, with the bytes of their writes
pub record WalkedTo (part : Part) (first bytes : List ℕ) (entries : List Entry) (from i : ℕ) (now left : List ℕ)
    : Type 0 where
  pub done : List Step
  pub split : steps_of bytes entries ≡ done ++ steps_of (drop from bytes) (drop i entries)
  pub size : from + total (drop i entries) ≡ length bytes
  pub walked : Walked part first done now left

pub walked_none : (part : Part) (first bytes : List ℕ) (entries : List Entry) (now left : List ℕ)
    → total entries ≡ length bytes → now ≡ first → left ≡ first → WalkedTo part first bytes entries 0 0 now left
walked_none part first bytes entries now left whole reads image = record {
  done = [];
  split = refl;
  size = omega arith;
  walked = record { reads = reads; image = image };
}

pub walked_more : (part : Part) (first bytes : List ℕ) (entries : List Entry) (from i : ℕ) (entry : Entry)
    (now new_now left new_left : List ℕ) → drop i entries ≡ entry ∷ drop (i + 1) entries
    → WalkedTo part first bytes entries from i now left
    → Walks part entry.part (move_of entry.change (take (size_of entry.change) (drop from bytes))) now new_now
    left new_left
    → WalkedTo part first bytes entries (from + size_of entry.change) (i + 1) new_now new_left
walked_more part first bytes entries from i entry now new_now left new_left next w walks =
    let n = size_of entry.change in
    let step : Step = (entry.part, move_of entry.change (take n (drop from bytes))) in
    let rest : steps_of (drop from bytes) (drop i entries) ≡ step ∷ steps_of (drop (from + n) bytes)
    (drop (i + 1) entries) =
    ap (λ (l : List Entry). steps_of (drop from bytes) l) next
    ∙ ap (λ (l : List ℕ). step ∷ steps_of l (drop (i + 1) entries)) (drop-drop n from bytes) in
    record {
      done = w.done ++ step ∷ [];
      split = w.split ∙ ap (λ (l : List Step). w.done ++ l) rest
          ∙ sym (append_assoc w.done (step ∷ []) (steps_of (drop (from + n) bytes) (drop (i + 1) entries)));
      size = omega (arith, w.size, ap total next);
      walked = walked_on part entry.part (move_of entry.change (take n (drop from bytes))) first w.done now new_now
          left new_left w.walked walks;
    }

-- the same with the size and the bytes that the code has
pub walked_next : (part : Part) (first bytes piece : List ℕ) (entries : List Entry) (from i n : ℕ) (entry : Entry)
    (now new_now left new_left : List ℕ) → drop i entries ≡ entry ∷ drop (i + 1) entries
    → n ≡ size_of entry.change → piece ≡ take n (drop from bytes)
    → WalkedTo part first bytes entries from i now left
    → Walks part entry.part (move_of entry.change piece) now new_now left new_left
    → WalkedTo part first bytes entries (from + n) (i + 1) new_now new_left
walked_next part first bytes piece entries from i n entry now new_now left new_left next size is w walks =
    subst (λ (k : ℕ). WalkedTo part first bytes entries (from + k) (i + 1) new_now new_left) (sym size)
    (walked_more part first bytes entries from i entry now new_now left new_left next w
    (subst (λ (l : List ℕ). Walks part entry.part (move_of entry.change l) now new_now left new_left) (is
    ∙ ap (λ (k : ℕ). take k (drop from bytes)) size) walks))

pub walked_all : (part : Part) (first bytes : List ℕ) (entries : List Entry) (from i : ℕ) (now left : List ℕ)
    → length entries ≤ i → WalkedTo part first bytes entries from i now left
    → left_after first (moves_on part (steps_of bytes entries)) left
walked_all part first bytes entries from i now left over w =
    subst (λ (l : List Step). left_after first (moves_on part l) left)
    (sym (w.split ∙ ap (λ (l : List Entry). w.done ++ steps_of (drop from bytes) l) (drop_all i entries over)
    ∙ append-nil w.done)) w.walked.image
