-- Replays one after another, and what follows from answers that follow.
use Rattle.std.proofs.Common.{◌≡◌, ℕ, Bool, true, false, true≢false, List, [], ◌∷◌, ◌++◌, map, refl, sym, ap, subst}
use Rattle.std.proofs.Common.{◌∙◌}
use Rattle.std.proofs.lemmas.List.{append_assoc, map-append}
use Rattle.provider_trait.specs.declared.answer.Answer.{Answer}
use Rattle.provider_trait.specs.declared.answer.Answer.TheVariants.{Stored, Gone, Refused}
use Rattle.deploy_histories.specs.Planned.{Planned}
use Rattle.deploy_histories.specs.Events.{Event, Progress, progress, after, after_all, at_opening}
use Rattle.deploy_histories.specs.Legal.{May, MayEnd, IsLegalFrom, IsLegal}
use Rattle.deploy_histories.specs.Answers.{Noted, begin_of, answer_of, Settles, PlaysThen, last_play}
use Rattle.deploy_histories.specs.Answers.{where_refused, IsReplay, Follow}
use Rattle.task_standings.proofs.Recording.{legal_front}
use Rattle.board_history.specs.Stages.{refuses}
use Rattle.board_dealing.proofs.Passages.{after_all_both, progress_by}
use Rattle.board_replays.specs.Plays.{SuitsNoted, NoneRefuses, ArePlayed, AreLate}
use Rattle.board_replays.proofs.ReplayLemmas.{settles_same, replay_same}

pub none_refuses_both : (ns ms : List Noted) → NoneRefuses ns → NoneRefuses ms → NoneRefuses (ns ++ ms)
none_refuses_both [] ms a b = b
none_refuses_both (n ∷ ns) ms a b = (a.0, none_refuses_both ns ms a.1 b)

-- what comes where an answer refuses
pub where_it_refuses : (a : Answer) (r s : Type 0) → refuses a ≡ true → r → where_refused a r s
where_it_refuses (Refused code) r s e i = i
where_it_refuses (Stored j) r s e i = absurd (true≢false (sym e))
where_it_refuses Gone r s e i = absurd (true≢false (sym e))

pub where_it_does : (a : Answer) (r s : Type 0) → refuses a ≡ false → s → where_refused a r s
where_it_does (Refused code) r s e i = absurd (true≢false e)
where_it_does (Stored j) r s e i = i
where_it_does Gone r s e i = i

pub refused_is : (a : Answer) (r s : Type 0) → refuses a ≡ true → where_refused a r s → r
refused_is (Refused code) r s e i = i
refused_is (Stored j) r s e i = absurd (true≢false (sym e))
refused_is Gone r s e i = absurd (true≢false (sym e))

pub done_is : (a : Answer) (r s : Type 0) → refuses a ≡ false → where_refused a r s → s
done_is (Refused code) r s e i = absurd (true≢false e)
done_is (Stored j) r s e i = i
done_is Gone r s e i = i

module _ (x : Planned) where
  -- the history of the first answers, and then that of the others
  pub replay_then : (ns ms : List Noted) (p : Progress) (g h : List Event) → NoneRefuses ns → IsReplay x p ns g
      → IsReplay x (after_all g p) ms h → IsReplay x p (ns ++ ms) (g ++ h)
  replay_then [] ms p g h none r q =
      subst (λ (l : List Event). IsReplay x p ms (l ++ h)) (sym r)
      (subst (λ (l : List Event). IsReplay x (after_all l p) ms h) r q)
  replay_then (n ∷ ns) ms p g h none r q =
      let o = done_is n.answer (r.others ≡ last_play n ns)
      (PlaysThen n (after_all r.scopes p) r.others (λ s more. IsReplay x s ns more)) none.0 r.goes_on in
      let far : after_all g p ≡ after_all o.others (after (answer_of n) (after (begin_of n) (after_all r.scopes p)))
      = ap (λ (l : List Event). after_all l p) r.is ∙ after_all_both r.scopes r.others p
      ∙ ap (λ (l : List Event). after_all l (after_all r.scopes p)) o.is in
      record {
        scopes = r.scopes;
        others = r.others ++ h;
        settles = r.settles;
        is = ap (λ (l : List Event). l ++ h) r.is ∙ append_assoc r.scopes r.others h;
        goes_on = where_it_does n.answer (r.others ++ h ≡ last_play n (ns ++ ms))
            (PlaysThen n (after_all r.scopes p) (r.others ++ h) (λ s more. IsReplay x s (ns ++ ms) more)) none.0
            (record {
              others = o.others ++ h;
              is = ap (λ (l : List Event). l ++ h) o.is;
              goes_on = replay_then ns ms (after (answer_of n) (after (begin_of n) (after_all r.scopes p))) o.others h
                  none.1 o.goes_on (subst (λ (s : Progress). IsReplay x s ms h) far q);
            });
      }

  -- one answer that does not refuse
  pub replay_one : (p : Progress) (n : Noted) (scopes : List Event) → refuses n.answer ≡ false → Settles x p scopes
      → IsReplay x p (n ∷ []) (scopes ++ begin_of n ∷ answer_of n ∷ [])
  replay_one p n scopes e s = record {
    scopes = scopes;
    others = begin_of n ∷ answer_of n ∷ [];
    settles = s;
    is = refl;
    goes_on = where_it_does n.answer (begin_of n ∷ answer_of n ∷ [] ≡ last_play n [])
        (PlaysThen n (after_all scopes p) (begin_of n ∷ answer_of n ∷ []) (λ r more. IsReplay x r [] more)) e
        (record { others = []; is = refl; goes_on = refl });
  }

  -- from an answer that refuses on
  pub replay_last : (p : Progress) (n : Noted) (ns : List Noted) (scopes : List Event) → refuses n.answer ≡ true
      → Settles x p scopes → IsReplay x p (n ∷ ns) (scopes ++ last_play n ns)
  replay_last p n ns scopes e s = record {
    scopes = scopes;
    others = last_play n ns;
    settles = s;
    is = refl;
    goes_on = where_it_refuses n.answer (last_play n ns ≡ last_play n ns)
        (PlaysThen n (after_all scopes p) (last_play n ns) (λ r more. IsReplay x r ns more)) e refl;
  }

  -- ---- a replay of two lists of answers taken apart

  pub record IsApart (p : Progress) (ns ms : List Noted) (h : List Event) : Type 0 where
    pub front : List Event
    pub back : List Event
    pub is : h ≡ front ++ back
    pub first : IsReplay x p ns front
    pub last : IsReplay x (after_all front p) ms back

  pub apart : (ns ms : List Noted) (p : Progress) (h : List Event) → NoneRefuses ns → IsReplay x p (ns ++ ms) h
      → IsApart p ns ms h
  apart [] ms p h none r = record { front = []; back = h; is = refl; first = refl; last = r }
  apart (n ∷ ns) ms p h none r =
      let o = done_is n.answer (r.others ≡ last_play n (ns ++ ms))
      (PlaysThen n (after_all r.scopes p) r.others (λ s more. IsReplay x s (ns ++ ms) more)) none.0 r.goes_on in
      let a = apart ns ms (after (answer_of n) (after (begin_of n) (after_all r.scopes p))) o.others none.1 o.goes_on in
      record {
        front = r.scopes ++ begin_of n ∷ answer_of n ∷ a.front;
        back = a.back;
        is = r.is ∙ ap (λ (l : List Event). r.scopes ++ l)
            (o.is ∙ ap (λ (l : List Event). begin_of n ∷ answer_of n ∷ l) a.is)
            ∙ sym (append_assoc r.scopes (begin_of n ∷ answer_of n ∷ a.front) a.back);
        first = record {
          scopes = r.scopes;
          others = begin_of n ∷ answer_of n ∷ a.front;
          settles = r.settles;
          is = refl;
          goes_on = where_it_does n.answer (begin_of n ∷ answer_of n ∷ a.front ≡ last_play n ns)
              (PlaysThen n (after_all r.scopes p) (begin_of n ∷ answer_of n ∷ a.front)
              (λ s more. IsReplay x s ns more)) none.0
              (record { others = a.front; is = refl; goes_on = a.first });
        };
        last = subst (λ (s : Progress). IsReplay x s ms a.back)
            (sym (after_all_both r.scopes (begin_of n ∷ answer_of n ∷ a.front) p)) a.last;
      }

  -- ---- what follows from answers that follow

  legal_as : (h g : List Event) → h ≡ g → IsLegal x h → IsLegal x g
  legal_as h g e l = subst (λ (k : List Event). IsLegal x k) e l

  -- what is legal from a history on
  legal_after : (front back : List Event) → IsLegal x (front ++ back) → IsLegalFrom x (progress front) back
  legal_after front back l = (legal_front x at_opening front back l).1

  pub suits_by : (p : Progress) (n : Noted) → MayEnd x p n.task n.answer → SuitsNoted x n
  suits_by p n m = record { of = m.ended; is_task = m.is_task; suits = m.suits }

  -- where the answers follow with one more, and it is the next to be played, its Begin may come and it suits its task
  abbrev pub Plays : Progress → Noted → Type 0
  Plays p n = May x p (begin_of n) × SuitsNoted x n

  one_play : (q : Progress) (n : Noted) (os : List Event)
      → where_refused n.answer (os ≡ last_play n []) (PlaysThen n q os (λ r more. IsReplay x r [] more))
      → IsLegalFrom x q os → Plays q n
  one_play q n os w l = by (refuses n.answer) refl
    where
      so : (more : List Event) → os ≡ begin_of n ∷ answer_of n ∷ more → Plays q n
      so more e =
          let k = subst (λ (g : List Event). IsLegalFrom x q g) e l in
          (k.0, suits_by (after (begin_of n) q) n k.1.0)

      by : (b : Bool) → refuses n.answer ≡ b → Plays q n
      by true e =
          so [] (refused_is n.answer (os ≡ last_play n []) (PlaysThen n q os (λ r more. IsReplay x r [] more)) e w)
      by false e =
          let o = done_is n.answer (os ≡ last_play n []) (PlaysThen n q os (λ r more. IsReplay x r [] more)) e w in
          so o.others o.is

  pub follows_early : (ns : List Noted) (n : Noted) (h scopes : List Event) → ArePlayed x ns h
      → Settles x (progress h) scopes → Follow x (ns ++ n ∷ []) → Plays (progress (h ++ scopes)) n
  follows_early ns n h scopes a s f =
      let z = apart ns (n ∷ []) at_opening f.history a.none_refuses f.is_replay in
      let same = replay_same x ns at_opening z.front h z.first a.is_replay in
      let r : IsReplay x (progress h) (n ∷ []) z.back
      = subst (λ (l : List Event). IsReplay x (progress l) (n ∷ []) z.back) same z.last in
      let one = settles_same x (progress h) r.scopes scopes r.settles s in
      let all : f.history ≡ (h ++ scopes) ++ r.others
      = z.is ∙ ap (λ (l : List Event). l ++ z.back) same
      ∙ ap (λ (l : List Event). h ++ l) (r.is ∙ ap (λ (l : List Event). l ++ r.others) one)
      ∙ sym (append_assoc h scopes r.others) in
      one_play (progress (h ++ scopes)) n r.others
      (subst (λ (q : Progress). where_refused n.answer (r.others ≡ last_play n [])
      (PlaysThen n q r.others (λ s more. IsReplay x s [] more)))
      (ap (λ (l : List Event). after_all l (progress h)) one ∙ sym (progress_by h (h ++ scopes) scopes refl)) r.goes_on)
      (legal_after (h ++ scopes) r.others (legal_as f.history ((h ++ scopes) ++ r.others) all f.is_legal))

  -- the Begins and the answers from a refusal on, with one answer more
  last_more : (first n : Noted) (more : List Noted)
      → last_play first (more ++ n ∷ [])
      ≡ map begin_of (first ∷ more) ++ (begin_of n ∷ (map answer_of (first ∷ more) ++ answer_of n ∷ []))
  last_more first n more =
      ap (λ (l : List Event). begin_of first ∷ l)
      (ap (λ (l : List Event). l ++ answer_of first ∷ map answer_of (more ++ n ∷ []))
      (map-append begin_of more (n ∷ []))
      ∙ append_assoc (map begin_of more) (begin_of n ∷ []) (answer_of first ∷ map answer_of (more ++ n ∷ []))
      ∙ ap (λ (l : List Event). map begin_of more ++ begin_of n ∷ answer_of first ∷ l)
      (map-append answer_of more (n ∷ [])))

  pub follows_late : (ns : List Noted) (n : Noted) (late : List (ℕ × Answer)) (h : List Event) → AreLate x ns late h
      → Follow x (ns ++ n ∷ []) → Plays (progress h) n
  follows_late ns n late h a f =
      let joined : ns ++ n ∷ [] ≡ a.front ++ a.first ∷ (a.more ++ n ∷ [])
      = ap (λ (l : List Noted). l ++ n ∷ []) a.are ∙ append_assoc a.front (a.first ∷ a.more) (n ∷ []) in
      let z = apart a.front (a.first ∷ (a.more ++ n ∷ [])) at_opening f.history a.none_refuses
      (subst (λ (l : List Noted). IsReplay x at_opening l f.history) joined f.is_replay) in
      let same = replay_same x a.front at_opening z.front a.replayed z.first a.is_replay in
      let r : IsReplay x (progress a.replayed) (a.first ∷ (a.more ++ n ∷ [])) z.back
      = subst (λ (l : List Event). IsReplay x (progress l) (a.first ∷ (a.more ++ n ∷ [])) z.back) same z.last in
      let one = settles_same x (progress a.replayed) r.scopes a.scopes r.settles a.settles in
      let others = refused_is a.first.answer (r.others ≡ last_play a.first (a.more ++ n ∷ []))
      (PlaysThen a.first (after_all r.scopes (progress a.replayed)) r.others
      (λ s more. IsReplay x s (a.more ++ n ∷ []) more)) a.does_refuse r.goes_on ∙ last_more a.first n a.more in
      let all : f.history ≡ h ++ (begin_of n ∷ (map answer_of (a.first ∷ a.more) ++ answer_of n ∷ []))
      = z.is ∙ ap (λ (l : List Event). l ++ z.back) same
      ∙ ap (λ (l : List Event). a.replayed ++ l)
      (r.is ∙ ap (λ (l : List Event). l ++ r.others) one ∙ ap (λ (l : List Event). a.scopes ++ l) others
      ∙ sym (append_assoc a.scopes (map begin_of (a.first ∷ a.more))
      (begin_of n ∷ (map answer_of (a.first ∷ a.more) ++ answer_of n ∷ []))))
      ∙ sym (append_assoc a.replayed (a.scopes ++ map begin_of (a.first ∷ a.more))
      (begin_of n ∷ (map answer_of (a.first ∷ a.more) ++ answer_of n ∷ [])))
      ∙ ap (λ (l : List Event). l ++ (begin_of n ∷ (map answer_of (a.first ∷ a.more) ++ answer_of n ∷ [])))
      (sym a.is) in
      let k = legal_after h (begin_of n ∷ (map answer_of (a.first ∷ a.more) ++ answer_of n ∷ []))
      (legal_as f.history _ all f.is_legal) in
      let m = legal_front x (after (begin_of n) (progress h)) (map answer_of (a.first ∷ a.more)) (answer_of n ∷ [])
      k.1 in
      (k.0, suits_by _ n m.1.0)
