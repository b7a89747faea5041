-- Where answers follow, so do the first of them.
use Rattle.std.proofs.Common.{◌≡◌, ◌⊎◌, inl, inr, ℕ, zero, suc, ◌<◌, ◌≤◌, Bool, true, false, List, [], ◌∷◌, ◌++◌}
use Rattle.std.proofs.Common.{map, length, take, refl, sym, ap, subst, ◌∙◌, arith}
use Rattle.std.proofs.lemmas.Bool.{cases_order}
use Rattle.std.proofs.lemmas.List.{append_assoc, append-nil, map-append}
use Rattle.provider_trait.specs.declared.answer.Answer.{Answer}
use Rattle.deploy_histories.specs.Planned.{Planned}
use Rattle.deploy_histories.specs.Events.{Event, Progress, progress, after, after_all, at_opening, is_begun}
use Rattle.deploy_histories.specs.Legal.{MayEnd, IsLegalFrom, IsLegal}
use Rattle.deploy_histories.specs.Answers.{Noted, begin_of, answer_of, last_play, PlaysThen, IsReplay, Follow}
use Rattle.deploy_histories.specs.Answers.{StopsFollowing}
use Rattle.history_laws.proofs.Steps.{at_itself, at_other, start_waits}
use Rattle.task_standings.proofs.Recording.{legal_front, legal_joined}
use Rattle.board_history.specs.Stages.{refuses}
use Rattle.board_dealing.proofs.Passages.{progress_by}
use Rattle.board_replays.specs.Plays.{SuitsNoted, NoneRefuses, AreOpen, AreLate}
use Rattle.board_replays.proofs.Joining.{refused_is, apart, suits_by}
use Rattle.board_replays.proofs.PlayLemmas.{open_more, have_late}
use Rattle.board_replays.proofs.LateLemmas.{follow_of}

-- the first of the answers that refuses
record HasRefusal (ns : List Noted) : Type 0 where
  front : List Noted
  first : Noted
  more : List Noted
  are : ns ≡ front ++ first ∷ more
  none_refuses : NoneRefuses front
  does_refuse : refuses first.answer ≡ true

first_refusal : (ns : List Noted) → NoneRefuses ns ⊎ HasRefusal ns
first_refusal [] = inl tt
first_refusal (n ∷ ns) = by (refuses n.answer) refl (first_refusal ns)
  where
    by : (b : Bool) → refuses n.answer ≡ b → NoneRefuses ns ⊎ HasRefusal ns
        → NoneRefuses (n ∷ ns) ⊎ HasRefusal (n ∷ ns)
    by true e r =
        inr (record { front = []; first = n; more = ns; are = refl; none_refuses = tt; does_refuse = e })
    by false e (inl i) = inl (e, i)
    by false e (inr r) = inr (record {
      front = n ∷ r.front;
      first = r.first;
      more = r.more;
      are = ap (λ (l : List Noted). n ∷ l) r.are;
      none_refuses = (e, r.none_refuses);
      does_refuse = r.does_refuse;
    })

abbrev pair : Noted → ℕ × Answer
pair n = (n.task, n.answer)

module _ (x : Planned) where
  abbrev AllSuit : List Noted → Type 0
  AllSuit [] = Unit {0}
  AllSuit (n ∷ ns) = SuitsNoted x n × AllSuit ns

  all_suit : (q : Progress) (ns : List Noted) (rest : List Event) → IsLegalFrom x q (map answer_of ns ++ rest)
      → AllSuit ns
  all_suit q [] rest l = tt
  all_suit q (n ∷ ns) rest l = (suits_by x q n l.0, all_suit (after (answer_of n) q) ns rest l.1)

  begins_open : (p : Progress) (late : List (ℕ × Answer)) (ns : List Noted) → IsLegalFrom x p (map begin_of ns)
      → AllSuit ns → AreOpen x p late → AreOpen x (after_all (map begin_of ns) p) (late ++ map pair ns)
  begins_open p late [] l s o = subst (λ (k : List (ℕ × Answer)). AreOpen x p k) (sym (append-nil late)) o
  begins_open p late (n ∷ ns) l s o =
      let last : MayEnd x (after (begin_of n) p) n.task n.answer = record {
        is_begun = (n.worker, (n.body, at_itself n.task (is_begun n.worker n.body) p.status));
        ended = s.0.of;
        is_task = s.0.is_task;
        suits = s.0.suits;
      } in
      subst (λ (k : List (ℕ × Answer)). AreOpen x (after_all (map begin_of ns) (after (begin_of n) p)) k)
      (append_assoc late (pair n ∷ []) (map pair ns))
      (begins_open (after (begin_of n) p) (late ++ pair n ∷ []) ns l.1 s.1
      (open_more x p (after (begin_of n) p) n.task n.answer (start_waits x p n.task l.0.0 n.body l.0.1.1)
      (λ v d. at_other n.task (is_begun n.worker n.body) p.status v d) last late o))

  -- from a refusal on
  front_late : (ns ms : List Noted) → Follow x (ns ++ ms) → HasRefusal ns → Follow x ns
  front_late ns ms f r =
      let joined : ns ++ ms ≡ r.front ++ r.first ∷ (r.more ++ ms)
      = ap (λ (l : List Noted). l ++ ms) r.are ∙ append_assoc r.front (r.first ∷ r.more) ms in
      let z = apart x r.front (r.first ∷ (r.more ++ ms)) at_opening f.history r.none_refuses
      (subst (λ (l : List Noted). IsReplay x at_opening l f.history) joined f.is_replay) in
      let w : IsReplay x (progress z.front) (r.first ∷ (r.more ++ ms)) z.back = z.last in
      let others : w.others ≡ map begin_of (r.first ∷ r.more)
      ++ (map begin_of ms ++ (map answer_of (r.first ∷ r.more) ++ map answer_of ms))
      = refused_is r.first.answer (w.others ≡ last_play r.first (r.more ++ ms))
      (PlaysThen r.first (after_all w.scopes (progress z.front)) w.others
      (λ s more. IsReplay x s (r.more ++ ms) more)) r.does_refuse w.goes_on
      ∙ ap (λ (l : List Event). begin_of r.first ∷ l)
      (ap (λ (l : List Event). l ++ answer_of r.first ∷ map answer_of (r.more ++ ms)) (map-append begin_of r.more ms)
      ∙ append_assoc (map begin_of r.more) (map begin_of ms) (answer_of r.first ∷ map answer_of (r.more ++ ms))
      ∙ ap (λ (l : List Event). map begin_of r.more ++ (map begin_of ms ++ answer_of r.first ∷ l))
      (map-append answer_of r.more ms)) in
      let all : f.history ≡ (z.front ++ w.scopes) ++ (map begin_of (r.first ∷ r.more)
      ++ (map begin_of ms ++ (map answer_of (r.first ∷ r.more) ++ map answer_of ms)))
      = z.is ∙ ap (λ (l : List Event). z.front ++ l) (w.is ∙ ap (λ (l : List Event). w.scopes ++ l) others)
      ∙ sym (append_assoc z.front w.scopes (map begin_of (r.first ∷ r.more)
      ++ (map begin_of ms ++ (map answer_of (r.first ∷ r.more) ++ map answer_of ms)))) in
      let l = legal_front x at_opening (z.front ++ w.scopes) (map begin_of (r.first ∷ r.more)
      ++ (map begin_of ms ++ (map answer_of (r.first ∷ r.more) ++ map answer_of ms)))
      (subst (λ (h : List Event). IsLegal x h) all f.is_legal) in
      let m = legal_front x (progress (z.front ++ w.scopes)) (map begin_of (r.first ∷ r.more))
      (map begin_of ms ++ (map answer_of (r.first ∷ r.more) ++ map answer_of ms)) l.1 in
      let k = legal_front x (after_all (map begin_of (r.first ∷ r.more)) (progress (z.front ++ w.scopes)))
      (map begin_of ms) (map answer_of (r.first ∷ r.more) ++ map answer_of ms) m.1 in
      let suit = all_suit (after_all (map begin_of ms)
      (after_all (map begin_of (r.first ∷ r.more)) (progress (z.front ++ w.scopes)))) (r.first ∷ r.more)
      (map answer_of ms) k.1 in
      let point : progress (z.front ++ (w.scopes ++ map begin_of (r.first ∷ r.more)))
      ≡ after_all (map begin_of (r.first ∷ r.more)) (progress (z.front ++ w.scopes))
      = ap (λ (h : List Event). progress h) (sym (append_assoc z.front w.scopes (map begin_of (r.first ∷ r.more))))
      ∙ progress_by (z.front ++ w.scopes) ((z.front ++ w.scopes) ++ map begin_of (r.first ∷ r.more))
      (map begin_of (r.first ∷ r.more)) refl in
      let late : AreLate x ns (map pair (r.first ∷ r.more))
      (z.front ++ (w.scopes ++ map begin_of (r.first ∷ r.more)))
      = record {
        front = r.front;
        first = r.first;
        more = r.more;
        are = r.are;
        none_refuses = r.none_refuses;
        does_refuse = r.does_refuse;
        replayed = z.front;
        is_replay = z.first;
        scopes = w.scopes;
        settles = w.settles;
        is = refl;
        late_are = refl;
        are_open = subst (λ (p : Progress). AreOpen x p (map pair (r.first ∷ r.more))) (sym point)
            (begins_open (progress (z.front ++ w.scopes)) [] (r.first ∷ r.more) m.0 suit tt);
      } in
      follow_of x ns (map pair (r.first ∷ r.more)) (z.front ++ (w.scopes ++ map begin_of (r.first ∷ r.more)))
      (have_late x ns (map pair (r.first ∷ r.more)) (z.front ++ (w.scopes ++ map begin_of (r.first ∷ r.more))) late)
      (subst (λ (h : List Event). IsLegal x h) (append_assoc z.front w.scopes (map begin_of (r.first ∷ r.more)))
      (legal_joined x at_opening (z.front ++ w.scopes) (map begin_of (r.first ∷ r.more)) l.0 m.0))

  pub front_follows : (ns ms : List Noted) → Follow x (ns ++ ms) → Follow x ns
  front_follows ns ms f = elim (first_refusal ns) [
    | inl i ↦
        let z = apart x ns ms at_opening f.history i f.is_replay in record {
          history = z.front;
          is_replay = z.first;
          is_legal = (legal_front x at_opening z.front z.back
              (subst (λ (h : List Event). IsLegal x h) z.is f.is_legal)).0;
        }
    | inr r ↦ front_late ns ms f r
  ]

  -- a list is the first of its items, and then the others
  split_at : (ns : List Noted) (i j : ℕ) → i ≤ j → (rest : List Noted) × (take j ns ≡ take i ns ++ rest)
  split_at [] zero j l = (take j [], refl)
  split_at [] (suc i) zero l = absurd (omega (arith, l))
  split_at [] (suc i) (suc j) l = ([], refl)
  split_at (n ∷ ns) zero j l = (take j (n ∷ ns), refl)
  split_at (n ∷ ns) (suc i) zero l = absurd (omega (arith, l))
  split_at (n ∷ ns) (suc i) (suc j) l =
      let r = split_at ns i j (omega (arith, l)) in (r.0, ap (λ (k : List Noted). n ∷ k) r.1)

  fewer_follow : (ns : List Noted) (i j : ℕ) → i ≤ j → Follow x (take j ns) → Follow x (take i ns)
  fewer_follow ns i j l f =
      let r = split_at ns i j l in
      front_follows (take i ns) r.0 (subst (λ (k : List Noted). Follow x k) r.1 f)

  not_earlier : (ns : List Noted) (i j : ℕ) → StopsFollowing x ns i → StopsFollowing x ns j → i < j → ⊥
  not_earlier ns i j a b l = a.no_more (fewer_follow ns (suc i) j (omega (arith, l)) b.follow)

  pub stops_once : (ns : List Noted) (i j : ℕ) → StopsFollowing x ns i → StopsFollowing x ns j → i ≡ j
  stops_once ns i j a b = elim (cases_order i j) [
    | inl e ↦ e
    | inr o ↦ elim o [ inl l ↦ absurd (not_earlier ns i j a b l) | inr l ↦ absurd (not_earlier ns j i b a l) ]
  ]

  take_whole : (ns : List Noted) → take (length ns) ns ≡ ns
  take_whole [] = refl
  take_whole (n ∷ ns) = ap (λ (k : List Noted). n ∷ k) (take_whole ns)

  pub follows_or_stops : (ns : List Noted) (i : ℕ) → Follow x ns → StopsFollowing x ns i → ⊥
  follows_or_stops ns i f a =
      a.no_more (fewer_follow ns (suc i) (length ns) (let w = a.within in omega (arith, w))
      (subst (λ (k : List Noted). Follow x k) (sym (take_whole ns)) f))
