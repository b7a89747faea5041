use Rattle.std.proofs.Common.{◌≡◌, ◌≤◌, ◌+◌, ◌-◌, ◌++◌, length, take, drop, arith, ap, sym, ◌∙◌}
use Rattle.std.proofs.lemmas.List.{length-drop}
use Rattle.function_texts.proofs.PlaceLemmas.{whole_rest}
use Rattle.function_texts.proofs.CutLemmas.{replaced_more, replaced_ends, part_fits}
use Rattle.function_texts.proofs.cuts.replaced_with.Goals as goal

pub places-smaller : goal.places-smaller
places-smaller c =
    let text = c.args.characters.now in
    let rest = take (length text - c.places.start) (drop c.places.start text) in
    let fits : c.in-Some.place + length c.args.old.now ≤ length rest =
    part_fits c.args.old.now rest c.in-Some.place c.in-Some.ensures in
    let size : length rest ≡ length text - c.places.start = ap length (whole_rest text c.places.start)
    ∙ length-drop c.places.start text in
    omega (arith, c.requires.some)

pub places-preserved : goal.places-preserved
places-preserved c =
    let text = c.args.characters.now in
    let rest = take (length text - c.places.start) (drop c.places.start text) in
    let fits : c.in-Some.place + length c.args.old.now ≤ length rest =
    part_fits c.args.old.now rest c.in-Some.place c.in-Some.ensures in
    let size : length rest ≡ length text - c.places.start = ap length (whole_rest text c.places.start)
    ∙ length-drop c.places.start text in
    let out = c.places.out.items in
    let start = c.places.start in
    let end : start + c.in-Some.place - start ≡ c.in-Some.place = omega arith in
    let front : out ++ take (start + c.in-Some.place - start) (drop start text) ≡ out ++ take c.in-Some.place rest =
    ap (λ n. out ++ take n (drop start text)) end
    ∙ ap (λ r. out ++ take c.in-Some.place r) (sym (whole_rest text start)) in
    record {
      all = replaced_more out (out ++ take (start + c.in-Some.place - start) (drop start text)) c.put_both.new.out.items
          c.args.old.now c.args.new.now text rest start c.in-Some.place _ c.requires.some (whole_rest text start)
          c.in-Some.ensures front c.in_ok-put_both.ensures c.places.invariant.all;
      within = omega (arith, c.places.invariant.within);
    }

pub returns : goal.returns
returns c =
    let text = c.args.characters.now in
    replaced_ends c.places.out.items c.extend_from_slice.new.self.items c.args.old.now c.args.new.now text
    _ c.places.start _ c.requires.some (whole_rest text c.places.start)
    c.in_default.ensures c.in_ok-extend_from_slice.ensures.items c.places.invariant.all
