-- What a crash may leave of both parts, step by step.
use Rattle.std.proofs.Common.{◌≡◌, ◌⊎◌, ◌<◌, ℕ, ◌≤◌, List, [], ◌∷◌, ◌++◌, length, take, refl, sym, ◌∙◌, ap, subst}
use Rattle.std.proofs.Common.{arith, inl, inr, ⊎_elim, length-append}
use Rattle.std.proofs.lemmas.List.{take_all, take-append-le, append-nil}
use Rattle.std.proofs.lemmas.Bool.{cases_lt}
use Rattle.arm_edges.specs.declared.disk.Part.{Part}
use Rattle.arm_edges.specs.declared.disk.Part.TheVariants.{A, B}
use Rattle.arm_edges.specs.Disk.{Parts, on, At, Torn, Cut, GoesOn, Unchanged, IsKept}
use Rattle.mem_disk.specs.Moves.{Move, Step, wrote, tore, shortened, tore_off, synced, if_same, moves_on, read_after}
use Rattle.mem_disk.specs.Moves.{reads_after, parts_after, IsOneMore, image_after, left_after, left_at}
use Rattle.mem_disk.specs.Contents.{with_part}
use Rattle.mem_disk.specs.ReadImages.{torn_same, cut_same}
use Rattle.mem_disk.proofs.MoveLemmas.{reads-push, images-push}

-- the moves of a part, with one step more
pub moves_on-push : (part : Part) (steps : List Step) (step : Step)
    → moves_on part (steps ++ step ∷ []) ≡ moves_on part steps ++ if_same part step.0 step.1 []
moves_on-push part [] step = refl
moves_on-push A ((A, m) ∷ steps) step = ap (λ (l : List Move). m ∷ l) (moves_on-push A steps step)
moves_on-push A ((B, m) ∷ steps) step = moves_on-push A steps step
moves_on-push B ((A, m) ∷ steps) step = moves_on-push B steps step
moves_on-push B ((B, m) ∷ steps) step = ap (λ (l : List Move). m ∷ l) (moves_on-push B steps step)

abbrev pub moment_of : Parts × List Step → ℕ
moment_of disk = length disk.1

abbrev pub left_of : Parts × List Step → ℕ → Parts → Type 0
left_of disk = left_at disk.0 disk.1

-- one step more, that takes each image that there was to one after it
pub goes_push : (first : Parts) (steps more : List Step) (step : Step) (change : Parts → Parts → Type 0)
    → more ≡ steps ++ step ∷ []
    → ((image : Parts) → left_after first.a (moves_on A (steps ++ step ∷ [])) image.a
    → left_after first.b (moves_on B (steps ++ step ∷ [])) image.b
    → (before : Parts)
    × (left_after first.a (moves_on A steps) before.a × left_after first.b (moves_on B steps) before.b)
    × change before image)
    → ((parts : Parts) → change parts parts)
    → GoesOn moment_of left_of change (first, steps) (first, more)
goes_push first steps more step change is back same =
    subst (λ (l : List Step). GoesOn moment_of left_of change (first, steps) (first, l)) (sym is) (record {
      later = omega (arith, length-append steps (step ∷ []));
      past = λ t image le l. subst (λ (k : List Step). at_steps k image) (take-append-le t steps (step ∷ []) le) l;
      keeps =
          λ t image le l. subst (λ (k : List Step). at_steps k image) (sym (take-append-le t steps (step ∷ []) le)) l;
      during = λ t image from to l. ⊎_elim
          (λ (early : t ≤ length steps). let here : t ≡ length steps = omega arith in (
            image,
            subst (λ (k : List Step). at_steps k image) (take-append-le t steps (step ∷ []) early
                ∙ ap (λ (n : ℕ). take n steps) here) l,
            same image,
          ))
          (λ (late : length (steps ++ step ∷ []) ≤ t).
          let whole = subst (λ (k : List Step). at_steps k image) (take_all t (steps ++ step ∷ []) late) l in
          let h = back image whole.0 whole.1 in
          (h.0, subst (λ (k : List Step). at_steps k h.0) (sym (take_all (length steps) steps (omega arith))) h.1, h.2))
          (which t);
    })
  where
    at_steps : List Step → Parts → Type 0
    at_steps l image = left_after first.a (moves_on A l) image.a × left_after first.b (moves_on B l) image.b

    which : (t : ℕ) → (t ≤ length steps) ⊎ (length (steps ++ step ∷ []) ≤ t)
    which t = ⊎_elim (λ (above : length steps < t). inr (omega (arith, length-append steps (step ∷ []))))
        (λ (below : t ≤ length steps). inl below) (cases_lt (length steps) t)

pub goes_same : (first : Parts) (steps more : List Step) (change : Parts → Parts → Type 0) → more ≡ steps
    → ((parts : Parts) → change parts parts) → GoesOn moment_of left_of change (first, steps) (first, more)
goes_same first steps more change is same =
    subst (λ (l : List Step). GoesOn moment_of left_of change (first, steps) (first, l)) (sym is) (record {
      later = omega arith;
      past = λ t image le l. l;
      keeps = λ t image le l. l;
      during = λ t image from to l. let here : t ≡ length steps = omega arith in
          (image, subst (λ (n : ℕ). left_at first steps n image) here l, same image);
    })

at_torn_same : (part : Part) (at n : ℕ) (parts : Parts) → At part (Torn at n) parts parts
at_torn_same A at n parts = record { here = torn_same at n parts.a; there = refl }
at_torn_same B at n parts = record { here = torn_same at n parts.b; there = refl }

at_cut_same : (part : Part) (n : ℕ) (parts : Parts) → At part (Cut n) parts parts
at_cut_same A n parts = record { here = cut_same n parts.a; there = refl }
at_cut_same B n parts = record { here = cut_same n parts.b; there = refl }

unchanged : (part : Part) (old new : Parts) → At part (λ (before after : List ℕ). after ≡ before) old new → new ≡ old
unchanged A old new h = λ i. record { a = h.here i; b = h.there i }
unchanged B old new h = λ i. record { a = h.there i; b = h.here i }

-- a move of a part more
pub goes_move : (first : Parts) (steps more : List Step) (part : Part) (move : Move) (change : List ℕ → List ℕ
    → Type 0) → more ≡ steps ++ (part, move) ∷ []
    → ((now : List ℕ) (set : List ℕ → Type 0) (image : List ℕ) → image_after move now set image → (before : List ℕ)
    × set before × change before image)
    → ((file : List ℕ) → change file file)
    → GoesOn moment_of left_of (At part change) (first, steps) (first, more)
goes_move first steps more A move change is back same = goes_push first steps more (A, move) (At A change) is
    (λ image in_a in_b.
    let last = images-push (moves_on A steps) move first.a (λ (file : List ℕ). file ≡ first.a) image.a
    (subst (λ (l : List Move). left_after first.a l image.a) (moves_on-push A steps (A, move)) in_a) in
    let h = back (read_after move (reads_after (moves_on A steps) first.a)) (left_after first.a (moves_on A steps))
    image.a last in (
      record { a = h.0; b = image.b },
      (
        h.1,
        subst (λ (l : List Move). left_after first.b l image.b) (moves_on-push B steps (A, move)
            ∙ append-nil (moves_on B steps)) in_b,
      ),
      record { here = h.2; there = refl },
    ))
    (λ parts. record { here = same parts.a; there = refl })
goes_move first steps more B move change is back same = goes_push first steps more (B, move) (At B change) is
    (λ image in_a in_b.
    let last = images-push (moves_on B steps) move first.b (λ (file : List ℕ). file ≡ first.b) image.b
    (subst (λ (l : List Move). left_after first.b l image.b) (moves_on-push B steps (B, move)) in_b) in
    let h = back (read_after move (reads_after (moves_on B steps) first.b)) (left_after first.b (moves_on B steps))
    image.b last in (
      record { a = image.a; b = h.0 },
      (
        subst (λ (l : List Move). left_after first.a l image.a) (moves_on-push A steps (B, move)
            ∙ append-nil (moves_on A steps)) in_a,
        h.1,
      ),
      record { here = h.2; there = refl },
    ))
    (λ parts. record { here = same parts.b; there = refl })

pub goes_wrote : (first : Parts) (steps more : List Step) (part : Part) (at : ℕ) (bytes : List ℕ)
    → more ≡ steps ++ (part, wrote at bytes) ∷ []
    → GoesOn moment_of left_of (At part (Torn at (length bytes))) (first, steps) (first, more)
goes_wrote first steps more part at bytes is =
    goes_move first steps more part (wrote at bytes) (Torn at (length bytes)) is (λ now set image h. h)
    (λ file. torn_same at (length bytes) file)

pub goes_tore : (first : Parts) (steps more : List Step) (part : Part) (at : ℕ) (bytes : List ℕ)
    → IsOneMore steps (part, tore at bytes) more
    → GoesOn moment_of left_of (At part (Torn at (length bytes))) (first, steps) (first, more)
goes_tore first steps more part at bytes (inl is) =
    goes_move first steps more part (tore at bytes) (Torn at (length bytes)) is (λ now set image h. h)
    (λ file. torn_same at (length bytes) file)
goes_tore first steps more part at bytes (inr is) =
    goes_same first steps more (At part (Torn at (length bytes))) is (at_torn_same part at (length bytes))

pub goes_shortened : (first : Parts) (steps more : List Step) (part : Part) (n : ℕ)
    → more ≡ steps ++ (part, shortened n) ∷ []
    → GoesOn moment_of left_of (At part (Cut n)) (first, steps) (first, more)
goes_shortened first steps more part n is =
    goes_move first steps more part (shortened n) (Cut n) is (λ now set image h. h) (λ file. cut_same n file)

pub goes_tore_off : (first : Parts) (steps more : List Step) (part : Part) (n : ℕ)
    → IsOneMore steps (part, tore_off n) more
    → GoesOn moment_of left_of (At part (Cut n)) (first, steps) (first, more)
goes_tore_off first steps more part n (inl is) =
    goes_move first steps more part (tore_off n) (Cut n) is (λ now set image h. h) (λ file. cut_same n file)
goes_tore_off first steps more part n (inr is) = goes_same first steps more (At part (Cut n)) is (at_cut_same part n)

pub goes_synced : (first : Parts) (steps more : List Step) (part : Part) → more ≡ steps ++ (part, synced) ∷ []
    → GoesOn moment_of left_of Unchanged (first, steps) (first, more)
goes_synced first steps more part is =
    let h = goes_move first steps more part synced (λ (before after : List ℕ). after ≡ before) is
    (λ now set image h. (image, h.0, refl)) (λ file. refl) in
    record {
      later = h.later;
      past = h.past;
      keeps = h.keeps;
      during = λ t image from to l. let d = h.during t image from to l in (d.0, d.1, unchanged part d.0 image d.2);
    }

-- after a sync a crash leaves the part as it reads
pub kept_synced : (first now : Parts) (steps more : List Step) (part : Part) → more ≡ steps ++ (part, synced) ∷ []
    → now ≡ parts_after steps first → IsKept part now (left_at first more (length more))
kept_synced first now steps more A is reads image l =
    let here = subst (λ (k : List Step). left_after first.a (moves_on A k) image.a
    × left_after first.b (moves_on B k) image.b) (take_all (length more) more (omega arith) ∙ is) l in
    (images-push (moves_on A steps) synced first.a (λ (file : List ℕ). file ≡ first.a) image.a
    (subst (λ (k : List Move). left_after first.a k image.a) (moves_on-push A steps (A, synced)) here.0)).1
    ∙ ap (λ (p : Parts). p.a) (sym reads)
kept_synced first now steps more B is reads image l =
    let here = subst (λ (k : List Step). left_after first.a (moves_on A k) image.a
    × left_after first.b (moves_on B k) image.b) (take_all (length more) more (omega arith) ∙ is) l in
    (images-push (moves_on B steps) synced first.b (λ (file : List ℕ). file ≡ first.b) image.b
    (subst (λ (k : List Move). left_after first.b k image.b) (moves_on-push B steps (B, synced)) here.1)).1
    ∙ ap (λ (p : Parts). p.b) (sym reads)

-- what a read returns after one step more
pub parts-push : (first now : Parts) (steps more : List Step) (part : Part) (move : Move)
    → more ≡ steps ++ (part, move) ∷ [] → now ≡ parts_after steps first
    → with_part part (read_after move (on part now)) now ≡ parts_after more first
parts-push first now steps more A move is reads =
    ap (λ (p : Parts). with_part A (read_after move p.a) p) reads
    ∙ (λ i. record {
      a =
          (sym (reads-push (moves_on A steps) move first.a)
          ∙ ap (λ (l : List Move). reads_after l first.a) (sym (moves_on-push A steps (A, move)))) i;
      b = ap (λ (l : List Move). reads_after l first.b) (sym (append-nil (moves_on B steps))
          ∙ sym (moves_on-push B steps (A, move))) i;
    })
    ∙ ap (λ (l : List Step). parts_after l first) (sym is)
parts-push first now steps more B move is reads =
    ap (λ (p : Parts). with_part B (read_after move p.b) p) reads
    ∙ (λ i. record {
      a = ap (λ (l : List Move). reads_after l first.a) (sym (append-nil (moves_on A steps))
          ∙ sym (moves_on-push A steps (B, move))) i;
      b =
          (sym (reads-push (moves_on B steps) move first.b)
          ∙ ap (λ (l : List Move). reads_after l first.b) (sym (moves_on-push B steps (B, move)))) i;
    })
    ∙ ap (λ (l : List Step). parts_after l first) (sym is)

-- a part stays as it reads
pub parts_still : (first now : Parts) (steps more : List Step) (part : Part) (move : Move)
    → IsOneMore steps (part, move) more → ((file : List ℕ) → read_after move file ≡ file)
    → now ≡ parts_after steps first → now ≡ parts_after more first
parts_still first now steps more part move (inl is) still reads = sym (same_part part (still (on part now)))
    ∙ parts-push first now steps more part move is reads
  where
    same_part : (p : Part) → read_after move (on p now) ≡ on p now → with_part p (read_after move (on p now)) now ≡ now
    same_part A e = ap (λ (l : List ℕ). with_part A l now) e
    same_part B e = ap (λ (l : List ℕ). with_part B l now) e
parts_still first now steps more part move (inr is) still reads = reads
    ∙ ap (λ (l : List Step). parts_after l first) (sym is)
