use Rattle.std.proofs.Common.{◌≡◌, ◌+◌, ℕ, List, length, get_or, take, drop, ap, sym, ◌∙◌, arith, length-drop}
use Rattle.std.proofs.lemmas.List.{drop-drop}
use Rattle.arm_edges.specs.Disk.{Parts}
use Rattle.deploy_journal.proofs.Lists.{size_body}
use Rattle.deploy_journal.specs.Records.{body, body_bytes}
use Rattle.deploy_journal.proofs.Numbers.{lengths_are, body_read}
use Rattle.deploy_journal.proofs.read.read_record.Goals as goal
use Rattle.deploy_journal.proofs.read.read_record.Goals.{then-first_len-left-via-then-first_len-left}
use Rattle.deploy_journal.proofs.read.read_record.Goals.{then-first_len-left-via-else-first_len-left+then-second_len-left}

pub returns-then-left-lt17-clause-read : goal.returns-then-left-lt17-clause-read
returns-then-left-lt17-clause-read g c = λ t is r k same.
    let file = (g.D.Disk.reads c.args.disk.now).a in
    omega (arith, ap length same, size_body r k, length-drop c.args.at file)

-- the lengths are those of any record there, and these are too long
pub returns-then-first_len-left-clause-read : goal.returns-then-first_len-left-clause-read
returns-then-first_len-left-clause-read g c = λ t is r k same.
    let file = (g.D.Disk.reads c.args.disk.now).a in
    let long : length (drop c.args.at file) ≡ c.args.left = omega (arith, length-drop c.args.at file) in
    let header = c.read_full.new.buf in
    let size : length header ≡ 17 = omega (arith, c.read_full.auto.buf) in
    let read = c.in-Ok-true.ensures.filled t (omega (arith, is)) in
    let a = c.number_at-first_len.result in
    let b = c.number_at-second_len.result in
    let both = lengths_are r k (drop c.args.at file) header a b same size read.1 c.number_at-first_len.ensures
    c.number_at-second_len.ensures
    (omega (arith, c.number_at-first_len.type_inv)) (omega (arith, c.number_at-second_len.type_inv))
    (omega (arith, long)) in
    let whole : length (drop c.args.at file) ≡ length (body r k) = ap length same in
    elim c.then-first_len-left.branch [
      | then-first_len-left-via-then-first_len-left w ↦ omega (arith, both.0, both.1, whole, long, size_body r k)
      | then-first_len-left-via-else-first_len-left+then-second_len-left w ↦
          omega (arith, both.0, both.1, whole, long, size_body r k)
    ]

pub returns-clause-read : goal.returns-clause-read
returns-clause-read g c = λ t is.
    let file = (g.D.Disk.reads c.args.disk.now).a in
    let header = c.read_full.new.buf in
    let size : length header ≡ 17 = omega (arith, c.read_full.auto.buf) in
    let read = c.in-Ok-true.ensures.filled t (omega (arith, is)) in
    let a = c.number_at-first_len.result in
    let b = c.number_at-second_len.result in
    let e1 = c.read_full.ensures.still.reads_same in
    let e2 = c.read_bytes.ensures.still.reads_same in
    let x = drop c.args.at file in
    let size_a : length c.in-Some.first ≡ a = rw c.in-Some.is at c.in_ok-first.ensures.size in
    let size_b : length c.in-Some-2.second ≡ b = rw c.in-Some-2.is at c.in_ok-second.ensures.size in
    let f1 = rw c.in-Some.is at (c.in_ok-first.ensures.read t (omega (arith, is, ap (λ (f : Parts). length f.a) e1))) in
    let s1 =
    rw c.in-Some-2.is at
    (c.in_ok-second.ensures.read t (omega (arith, is, ap (λ (f : Parts). length f.a) (e2 ∙ e1)))) in
    let first_is : c.in-Some.first ≡ take a (drop 17 x) = f1
    ∙ ap (λ (f : Parts). take a (drop (c.args.at + 17) f.a)) e1
    ∙ ap (λ (l : List ℕ). take a l) (sym (drop-drop 17 c.args.at file)) in
    let there : drop (c.args.at + 17 + a) file ≡ drop (17 + a) x = ap (λ (n : ℕ). drop n file) (omega arith)
    ∙ sym (drop-drop (17 + a) c.args.at file) in
    let second_is : c.in-Some-2.second ≡ take b (drop (17 + a) x) = s1
    ∙ ap (λ (f : Parts). take b (drop (c.args.at + 17 + a) f.a)) (e2 ∙ e1)
    ∙ ap (λ (l : List ℕ). take b l) there in
    body_read x header c.in-Some.first c.in-Some-2.second a b size read.1 c.number_at-first_len.ensures
    c.number_at-second_len.ensures size_a size_b first_is second_is
    ∙ ap (λ (l : List ℕ). body_bytes (get_or header 0 0) c.in-Some.first c.in-Some-2.second l)
    (drop-drop (17 + length c.in-Some.first + length c.in-Some-2.second) c.args.at file)
