use Rattle.std.proofs.Common.{◌≡◌, ◌-◌, ◌≤◌, List, ℕ, length, take, drop, ap, ◌∙◌, arith, length-append, length-drop}
use Rattle.std.proofs.lemmas.List.{take_rest, drop_all, length-take-le}
use Rattle.arm_edges.proofs.Pieces.{moved, also_received}
use Rattle.arm_edges.proofs.mem_source.MemSourceSource.read.Goals as goal

pub returns-clause-moved : goal.returns-clause-moved
returns-clause-moved c = λ _.
    let bytes : List ℕ = c.args.self.now.bytes.items in
    let at : ℕ = c.args.self.now.taken in
    let n : ℕ = c.min-count.result in
    let rest : take (length c.deref.result.now - at) (drop at c.deref.result.now) ≡ drop at bytes =
    take_rest c.deref.result.now at ∙ ap (λ (l : List ℕ). drop at l) c.deref.ensures.value in
    let within : n ≤ length (drop at bytes) = omega (arith, ap length rest) in
    let copied : c.copy_from_slice.new.self ≡ take n (drop at bytes) = c.copy_from_slice.ensures.after
    ∙ ap (λ (l : List ℕ). take n l) rest in
    moved bytes c.args.buf.now c.copy_from_slice.new.self at n within copied
    (λ none some. drop_all at bytes (omega (arith, ap length rest, length-drop at bytes, c.in_ok-limit.ensures.some)))
    (omega (
      arith,
      length-append c.copy_from_slice.new.self (drop n c.args.buf.now),
      length-drop n c.args.buf.now,
      ap length copied,
      length-take-le n (drop at bytes) within,
    ))

pub returns-clause-received : goal.returns-clause-received
returns-clause-received c = λ _.
    let bytes : List ℕ = c.args.self.now.bytes.items in
    let at : ℕ = c.args.self.now.taken in
    let n : ℕ = c.min-count.result in
    let rest : take (length c.deref.result.now - at) (drop at c.deref.result.now) ≡ drop at bytes =
    take_rest c.deref.result.now at ∙ ap (λ (l : List ℕ). drop at l) c.deref.ensures.value in
    let copied : c.copy_from_slice.new.self ≡ take n (drop at bytes) = c.copy_from_slice.ensures.after
    ∙ ap (λ (l : List ℕ). take n l) rest in
    also_received bytes c.args.buf.now c.copy_from_slice.new.self at n (omega (arith, ap length rest)) copied
