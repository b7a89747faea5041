use Rattle.std.proofs.Common.{◌≡◌, ◌+◌, [], ◌∷◌, ◌++◌, map, take, drop, Some, option_map, option_and_then}
use Rattle.std.proofs.Common.{encode_utf8_all, refl, sym, ap, ap₂, ◌∙◌, subst, arith, rules, w64, append_assoc}
use Rattle.std.proofs.Common.{add-one}
use mir.Val.{to_z, of_z}
use Rattle.std.proofs.lemmas.List.{drop_more, drop_all, take_all}
use Rattle.std.proofs.lemmas.Result.{on_ok_weaker}
use Rattle.json.specs.Token.{begin_array, begin_object, key}
use Rattle.json.specs.Json as spelled
use Rattle.json.specs.Tree as tree
use Rattle.serde_json.specs.Data.{null, boolean, number, string, array, object, item, put, depth, members_depth}
use Rattle.serde_json.specs.Find.{of_integer}
use Rattle.serde_json.specs.Read.{of_items, of_members}
use Rattle.serde_json.specs.Written.{outline, members_outline, WritesItems, WritesMembers}
use Rattle.arm_value.specs.Json.{items_nesting, members_nesting, row, pairs}
use Rattle.arm_value.specs.View.{json, member}
use Rattle.arm_value.specs.Reading.{data_of, row_data, pairs_data}
use Rattle.arm_value.proofs.JsonLemmas.{item_nests, member_nests, map-take-more, next_in_order}
use Rattle.arm_value.proofs.WriteLemmas.{put_after}
use Rattle.arm_value.proofs.write.+write.Goals as goal

pub write-returns-in-Null-clause-ok : goal.write-returns-in-Null-clause-ok
write-returns-in-Null-clause-ok t c =
    let seen : null ≡ data_of (json c.args.value.now) = ap (λ v. data_of (json v)) (sym c.in-Null.is) in
    on_ok_weaker c.null.result (λ e. (spelled.null, e, ap Some seen, omega arith, ap outline seen)) c.null.ensures.ok

pub write-returns-in-Bool-clause-ok : goal.write-returns-in-Bool-clause-ok
write-returns-in-Bool-clause-ok t c =
    let seen : boolean c.in-Bool.b ≡ data_of (json c.args.value.now) = ap (λ v. data_of (json v)) (sym c.in-Bool.is) in
    on_ok_weaker c.boolean.result (λ e. (spelled.boolean c.in-Bool.b, e, ap Some seen, omega arith, ap outline seen))
    c.boolean.ensures.ok

pub write-returns-in-Int-clause-ok : goal.write-returns-in-Int-clause-ok
write-returns-in-Int-clause-ok t c =
    let seen : number (of_integer (to_z w64 (of_z w64 c.in-Int.n))) ≡ data_of (json c.args.value.now) =
    rw c.in-Int.is (search rules) in
    on_ok_weaker c.write_int.result
    (λ w. (
      spelled.number w.0,
      w.1,
      ap (option_map number) w.2 ∙ ap Some seen,
      omega arith,
      ap spelled.number w.3
          ∙ ap outline seen,
    )) c.write_int.ensures.ok

pub write-returns-in-Text-clause-ok : goal.write-returns-in-Text-clause-ok
write-returns-in-Text-clause-ok t c =
    let s = c.as_str.result.now in
    let text : string (encode_utf8_all c.in-Text.text) ≡ data_of (json c.args.value.now) =
    ap (λ v. data_of (json v)) (sym c.in-Text.is) in
    let seen : string s ≡ data_of (json c.args.value.now) = ap string c.as_str.ensures.bytes ∙ text in
    on_ok_weaker c.string.result (λ e. (spelled.string s, e, ap Some seen, omega arith, ap outline seen))
    c.string.ensures.ok

pub write-returns-in_ok-begin_array-in-Array-clause-ok : goal.write-returns-in_ok-begin_array-in-Array-clause-ok
write-returns-in_ok-begin_array-in-Array-clause-ok t c =
    let seen : array (row_data (row c.in-Array.items)) ≡ data_of (json c.args.value.now) =
    ap (λ v. data_of (json v)) (sym c.in-Array.is) in
    let opened : c.begin_array.new.self.tokens ≡ c.args.out.now.tokens ++ begin_array ∷ [] = search rules in
    on_ok_weaker c.write_items.result (λ w. (
      spelled.array w.0,
      w.1 ∙ ap (λ ts. ts ++ tree.items_tokens w.0) opened ∙ append_assoc _ (begin_array ∷ []) _,
      ap (option_map array) w.2 ∙ ap Some seen,
      omega (arith, w.3, ap depth seen),
      ap spelled.array w.4 ∙ ap outline seen,
    )) c.write_items.ensures.ok

pub write-returns-in_ok-begin_object-in-Object-clause-ok : goal.write-returns-in_ok-begin_object-in-Object-clause-ok
write-returns-in_ok-begin_object-in-Object-clause-ok t c =
    let seen : object (pairs_data (pairs c.in-Object.fields)) ≡ data_of (json c.args.value.now) =
    ap (λ v. data_of (json v)) (sym c.in-Object.is) in
    let opened : c.begin_object.new.self.tokens ≡ c.args.out.now.tokens ++ begin_object ∷ [] = search rules in
    on_ok_weaker c.write_fields.result (λ w. (
      spelled.object w.0,
      w.1 ∙ ap (λ ts. ts ++ tree.members_tokens w.0) opened ∙ append_assoc _ (begin_object ∷ []) _,
      ap (option_map object) w.2 ∙ ap Some seen,
      omega (arith, w.3, ap depth seen),
      ap spelled.object w.4 ∙ ap outline seen,
    )) c.write_fields.ensures.ok

pub write_items-write-requires : goal.write_items-write-requires
write_items-write-requires t c =
    let h = item_nests c.as_slice-item-items.result.now c.loop-item.item-index c.item-item.result
    c.loop-item-test.true c.item-item.is in
    let same = ap items_nesting c.as_slice-item-items.ensures.items in
    (omega (arith, h, same, c.decreases), tt)

pub write_items-loop-item-preserved : goal.write_items-loop-item-preserved
write_items-loop-item-preserved t c =
    let l = c.loop-item in
    let i = l.item-index in
    let vs = c.as_slice-item-items.result.now in
    let v = c.item-item.result in
    let here : map json (drop i vs) ≡ json v ∷ map json (drop (i + 1) vs) =
    ap (map json) (drop_more vs i v (omega (arith, c.loop-item-test.true))
    ∙ ap (λ y. y ∷ drop (i + 1) vs) (sym c.item-item.is)) in
    let w = c.in_ok-write.ensures.ok in (
      c.in_ok-write.ensures.before ∙ l.invariant.0,
      λ end rest. l.invariant.1 end (subst (λ js. WritesItems (row_data (row js)) l.out.tokens end) (sym here) (
        spelled.item w.0 rest.0,
        rest.1 ∙ ap (λ ts. ts ++ tree.items_tokens rest.0) w.1 ∙ append_assoc l.out.tokens _ _,
        ap (option_and_then (λ d. option_map (item d) (of_items rest.0))) w.2
            ∙ ap (option_map (item (data_of (json v)))) rest.2,
        omega (arith, w.3, rest.3),
        ap₂ spelled.item w.4 rest.4,
      )),
    )

pub write_items-returns-clause-ok : goal.write_items-returns-clause-ok
write_items-returns-clause-ok t c =
    let l = c.loop-item in
    let vs = c.as_slice-item-items.result.now in
    let end = c.end_array.new.self.tokens in
    let none : drop l.item-index vs ≡ [] = drop_all l.item-index vs (omega (arith, c.loop-item-test.false)) in
    on_ok_weaker c.end_array.result (λ e.
    subst (λ js. WritesItems (row_data (row js)) c.args.out.now.tokens end) c.as_slice-item-items.ensures.items
    (l.invariant.1 end (subst (λ ys. WritesItems (row_data (row (map json ys))) l.out.tokens end) (sym none)
    (spelled.no_items, e, refl, omega arith, refl)))) c.end_array.ensures.ok

pub write_fields-write-requires : goal.write_fields-write-requires
write_fields-write-requires t c =
    let h = member_nests c.as_slice-field-items.result.now c.loop-field.field-index c.field-item.result
    c.loop-field-test.true c.field-item.is in
    let same = ap members_nesting c.as_slice-field-items.ensures.members in
    (omega (arith, h, same, c.decreases), tt)

pub write_fields-loop-field-preserved : goal.write_fields-loop-field-preserved
write_fields-loop-field-preserved t c =
    let l = c.loop-field in
    let i = l.field-index in
    let fs = c.as_slice-field-items.result.now in
    let all = c.as_slice-field-items.ensures in
    let f = c.field-item.result in
    let done = map member (take i fs) in
    let more : map member (take (i + 1) fs) ≡ done ++ member f ∷ [] =
    rw add-one (map-take-more member fs i f c.loop-field-test.true c.field-item.is) in
    let last =
    put_after done (member f)
    (next_in_order fs c.args.fields.now done i f all.members all.rules.0 c.loop-field-test.true c.field-item.is
    refl) ∙ ap (λ ms. pairs_data (pairs ms)) (sym more) in
    let here : map member (drop i fs) ≡ member f ∷ map member (drop (i + 1) fs) =
    ap (map member) (drop_more fs i f (omega (arith, c.loop-field-test.true))
    ∙ ap (λ y. y ∷ drop (i + 1) fs) (sym c.field-item.is)) in
    let k = encode_utf8_all f.name in
    let named : c.key.new.self.tokens ≡ l.out.tokens ++ key k ∷ [] = search rules in
    let w = c.in_ok-write.ensures.ok in (
      c.in_ok-write.ensures.before ∙ c.key.ensures.room.0 ∙ l.invariant.0,
      λ ms reads shallow same.
          let tokens : l.out.tokens ++ tree.members_tokens (spelled.member k w.0 ms) ≡ c.write.new.out.tokens
          ++ tree.members_tokens ms =
          sym (ap (λ ts. ts ++ tree.members_tokens ms) (w.1 ∙ ap (λ ts. ts ++ tree.json_tokens w.0) named)
          ∙ append_assoc _ (tree.json_tokens w.0) _ ∙ append_assoc l.out.tokens (key k ∷ []) _) in
          subst (WritesMembers (pairs_data (pairs (map member fs))) c.args.out.now.tokens) tokens
          (l.invariant.1 (spelled.member k w.0 ms)
          (ap (option_and_then (λ d. of_members ms (put k d (pairs_data (pairs done))))) w.2
          ∙ ap (of_members ms) last ∙ reads)
          (omega (arith, w.3, shallow, ap (λ ms. members_depth (pairs_data (pairs ms))) here))
          (ap₂ (spelled.member k) w.4 same ∙ ap (λ ms. members_outline (pairs_data (pairs ms))) (sym here))),
    )

pub write_fields-returns-clause-ok : goal.write_fields-returns-clause-ok
write_fields-returns-clause-ok t c =
    let l = c.loop-field in
    let i = l.field-index in
    let fs = c.as_slice-field-items.result.now in
    let done : take i fs ≡ fs = take_all i fs c.loop-field-test.false in
    let none : drop i fs ≡ [] = drop_all i fs (omega (arith, c.loop-field-test.false)) in
    on_ok_weaker c.end_object.result (λ e.
    subst (λ ms. WritesMembers (pairs_data (pairs ms)) c.args.out.now.tokens c.end_object.new.self.tokens)
    c.as_slice-field-items.ensures.members
    (subst (WritesMembers (pairs_data (pairs (map member fs))) c.args.out.now.tokens) (sym e)
    (l.invariant.1 spelled.no_members (ap (λ ys. Some (pairs_data (pairs (map member ys)))) done) (omega arith)
    (ap (λ ys. members_outline (pairs_data (pairs (map member ys)))) (sym none))))) c.end_object.ensures.ok
