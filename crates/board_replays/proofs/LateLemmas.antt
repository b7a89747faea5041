-- Late answers come last, and all answers follow.
use Rattle.std.proofs.Common.{◌≡◌, ◌≢◌, ℕ, zero, suc, ◌<◌, ◌≤◌, ◌+◌, Bool, true, false, List, [], ◌∷◌, ◌++◌, map}
use Rattle.std.proofs.Common.{length, take, drop, get_or}
use Rattle.std.proofs.Common.{Option, None, refl, sym, ap, subst, ◌∙◌, arith}
use Rattle.std.proofs.lemmas.List.{append_assoc, append-nil, length-map}
use Rattle.provider_trait.specs.declared.answer.Answer.{Answer}
use Rattle.provider_trait.specs.declared.answer.Answer.TheVariants.{Stored, Gone, Refused}
use Rattle.deploy_histories.specs.Planned.{Planned}
use Rattle.deploy_histories.specs.Events as event
use Rattle.deploy_histories.specs.Events.{Event, Progress, progress, after, at_opening}
use Rattle.deploy_histories.specs.Legal.{MayEnd, IsLegalFrom, IsLegal}
use Rattle.deploy_histories.specs.Answers as history
use Rattle.deploy_histories.specs.Answers.{Noted, begin_of, answer_of, last_play, IsReplay, Follow, StopsFollowing}
use Rattle.std.specs.Prelude.{Result, Ok, Err, OnOk, IfErr}
use Rattle.foundation.proofs.Lists.{next_after}
use Rattle.plan_cells.specs.Known.{Table}
use Rattle.board_history.specs.Past.{Past, with_event}
use Rattle.task_agenda.specs.declared.agenda.Agenda.{Agenda}
use Rattle.board_dealing.specs.Kept.{IsKept}
use Rattle.history_laws.proofs.Steps.{at_other}
use Rattle.task_standings.proofs.Recording.{legal_joined}
use Rattle.board_replays.specs.declared.noted.Noted as code
use Rattle.board_dealing.proofs.Covering.{progress_more}
use Rattle.board_replays.specs.Plays.{NoneOf, AreOpen, AreLate, HavePlayed, IsPlayedOn, AreAllPlayed}
use Rattle.board_replays.specs.Replays.{noted_of, IsReopened, IsReplayed, IsBoardFault, IsOut}
use Rattle.board_replays.specs.declared.noted.BoardFault.{BoardFault}
use Rattle.board_replays.specs.declared.noted.BoardFault.TheVariants.{BadAnswer, OutOfMemory}
use Rattle.board_replays.proofs.Joining.{replay_then, replay_last}

abbrev pub late_event : ℕ × Answer → Event
late_event l = event.answer l.0 l.1

-- ---- answers of open Begins come one after another

module _ (x : Planned) where
  other_status : (p : Progress) (u v : ℕ) (a : Answer) → (v ≡ u → ⊥)
      → (after (event.answer u a) p).status v ≡ p.status v
  other_status p u v (Stored j) n = at_other u _ p.status v n
  other_status p u v Gone n = at_other u _ p.status v n
  other_status p u v (Refused code) n = at_other u _ p.status v n

  still_open : (p : Progress) (u : ℕ) (a : Answer) (ls : List (ℕ × Answer)) → NoneOf u ls → AreOpen x p ls
      → AreOpen x (after (event.answer u a) p) ls
  still_open p u a [] n o = tt
  still_open p u a (l ∷ ls) n o = (
    record {
      is_begun = (
        o.0.is_begun.0,
        (o.0.is_begun.1.0, other_status p u l.0 a n.0 ∙ o.0.is_begun.1.1),
      );
      ended = o.0.ended;
      is_task = o.0.is_task;
      suits = o.0.suits;
    },
    (o.1.0, still_open p u a ls n.1 o.1.1),
  )

  pub open_rest : (p : Progress) (l : ℕ × Answer) (ls : List (ℕ × Answer)) → AreOpen x p (l ∷ ls)
      → AreOpen x (after (late_event l) p) ls
  open_rest p l ls o = still_open p l.0 l.1 ls o.1.0 o.1.1

  open_legal : (p : Progress) (ls : List (ℕ × Answer)) → AreOpen x p ls → IsLegalFrom x p (map late_event ls)
  open_legal p [] o = tt
  open_legal p (l ∷ ls) o = (o.0, open_legal (after (late_event l) p) ls (open_rest p l ls o))

  pub late_legal : (h : List Event) (ls : List (ℕ × Answer)) → IsLegal x h → AreOpen x (progress h) ls
      → IsLegal x (h ++ map late_event ls)
  late_legal h ls l o = legal_joined x at_opening h (map late_event ls) l (open_legal (progress h) ls o)

  -- ---- what was played, with the late answers

  answers_are : (ns : List Noted)
      → map late_event (map (λ (n : Noted). (n.task, n.answer)) ns) ≡ map answer_of ns
  answers_are [] = refl
  answers_are (n ∷ ns) = ap (λ (l : List Event). answer_of n ∷ l) (answers_are ns)

  late_replay : (ns : List Noted) (late : List (ℕ × Answer)) (h : List Event) → AreLate x ns late h
      → IsReplay x at_opening ns (h ++ map late_event late)
  late_replay ns late h a =
      let ends : map late_event late ≡ answer_of a.first ∷ map answer_of a.more
      = ap (λ (l : List (ℕ × Answer)). map late_event l) a.late_are ∙ answers_are (a.first ∷ a.more) in
      let all : h ++ map late_event late ≡ a.replayed ++ (a.scopes ++ last_play a.first a.more)
      = ap (λ (l : List Event). l ++ map late_event late) a.is
      ∙ append_assoc a.replayed (a.scopes ++ map begin_of (a.first ∷ a.more)) (map late_event late)
      ∙ ap (λ (l : List Event). a.replayed ++ l)
      (append_assoc a.scopes (map begin_of (a.first ∷ a.more)) (map late_event late)
      ∙ ap (λ (l : List Event). a.scopes ++ (map begin_of (a.first ∷ a.more) ++ l)) ends) in
      subst (λ (k : List Event). IsReplay x at_opening ns k) (sym all)
      (subst (λ (ms : List Noted).
      IsReplay x at_opening ms (a.replayed ++ (a.scopes ++ last_play a.first a.more))) (sym a.are)
      (replay_then x a.front (a.first ∷ a.more) at_opening a.replayed (a.scopes ++ last_play a.first a.more)
      a.none_refuses a.is_replay
      (replay_last x (progress a.replayed) a.first a.more a.scopes a.does_refuse a.settles)))

  pub replay_of : (ns : List Noted) (late : List (ℕ × Answer)) (h : List Event) → HavePlayed x ns late h
      → IsReplay x at_opening ns (h ++ map late_event late)
  replay_of ns [] h p = subst (λ (k : List Event). IsReplay x at_opening ns k) (sym (append-nil h)) p.is_replay
  replay_of ns (l ∷ ls) h p = late_replay ns (l ∷ ls) h p

  pub open_of : (ns : List Noted) (late : List (ℕ × Answer)) (h : List Event) → HavePlayed x ns late h
      → AreOpen x (progress h) late
  open_of ns [] h p = tt
  open_of ns (l ∷ ls) h p = p.are_open

  pub follow_of : (ns : List Noted) (late : List (ℕ × Answer)) (h : List Event) → HavePlayed x ns late h → IsLegal x h
      → Follow x ns
  follow_of ns late h p l = record {
    history = h ++ map late_event late;
    is_replay = replay_of ns late h p;
    is_legal = late_legal h late l (open_of ns late h p);
  }

  -- ---- one answer after another

  take_more : (ns : List Noted) (i : ℕ) (n : Noted) → i < length ns → n ≡ get_or ns i n
      → take (suc i) ns ≡ take i ns ++ n ∷ []
  take_more [] i n l e = absurd (omega (arith, l))
  take_more (m ∷ ns) zero n l e = ap (λ (k : Noted). k ∷ []) (sym e)
  take_more (m ∷ ns) (suc i) n l e =
      ap (λ (k : List Noted). m ∷ k) (take_more ns i n (omega (arith, l)) e)

  stops_at : (ns : List Noted) (i : ℕ) (n : Noted) (late : List (ℕ × Answer)) (h : List Event) → i < length ns
      → n ≡ get_or ns i n → HavePlayed x (take i ns) late h → IsLegal x h
      → (Follow x (take i ns ++ n ∷ []) → ⊥) → StopsFollowing x ns i
  stops_at ns i n late h l e p g f = record {
    within = l;
    follow = follow_of (take i ns) late h p g;
    no_more = λ k. f (subst (λ (ms : List Noted). Follow x ms) (take_more ns i n l e) k);
  }

-- the answer at a place, as histories have it
noted_at : (ns : List code.Noted) (i : ℕ) (n : code.Noted) → i < length ns → n ≡ get_or ns i n
    → noted_of n ≡ get_or (map noted_of ns) i (noted_of n)
noted_at [] i n l e = absurd (omega (arith, l))
noted_at (m ∷ ns) zero n l e = ap noted_of e
noted_at (m ∷ ns) (suc i) n l e = noted_at ns i n (omega (arith, l)) e

in_map : (ns : List code.Noted) (i : ℕ) → i < length ns → i < length (map noted_of ns)
in_map ns i l = let s = length-map ns noted_of in omega (arith, l, s)

-- so many answers were played, and one more was
pub played_more : (x : Planned) (ns : List code.Noted) (i : ℕ) (n : code.Noted) (late : List (ℕ × Answer))
    (h : List Event) (r : Bool) → r ≡ true → i < length ns → n ≡ get_or ns i n
    → IsPlayedOn x (take i (map noted_of ns)) (noted_of n) late h r
    → HavePlayed x (take (suc i) (map noted_of ns)) late h
played_more x ns i n late h r e l g p =
    subst (λ (ms : List Noted). HavePlayed x ms late h)
    (sym (take_more x (map noted_of ns) i (noted_of n) (in_map ns i l) (noted_at ns i n l g)))
    (subst (λ (b : Bool). IsPlayedOn x (take i (map noted_of ns)) (noted_of n) late h b) e p)

-- or with it they do not follow
pub played_not : (x : Planned) (ns : List code.Noted) (i : ℕ) (n : code.Noted) (was late : List (ℕ × Answer))
    (old h : List Event) (r : Bool) → r ≡ false → i < length ns → n ≡ get_or ns i n
    → HavePlayed x (take i (map noted_of ns)) was old → IsLegal x old
    → IsPlayedOn x (take i (map noted_of ns)) (noted_of n) late h r → StopsFollowing x (map noted_of ns) i
played_not x ns i n was late old h r e l g p k q =
    stops_at x (map noted_of ns) i (noted_of n) was old (in_map ns i l) (noted_at ns i n l g) p k
    (subst (λ (b : Bool). IsPlayedOn x (take i (map noted_of ns)) (noted_of n) late h b) e q)

pub played_all : (x : Planned) (ns : List code.Noted) (i : ℕ) (late : List (ℕ × Answer)) (h : List Event)
    → i ≡ length ns → HavePlayed x (take i (map noted_of ns)) late h → HavePlayed x (map noted_of ns) late h
played_all x ns i late h e p =
    subst (λ (ms : List Noted). HavePlayed x ms late h)
    (take_all (map noted_of ns) i (let s = length-map ns noted_of in omega (arith, e, s))) p
  where
    take_all : (ms : List Noted) (k : ℕ) → length ms ≤ k → take k ms ≡ ms
    take_all [] zero l = refl
    take_all [] (suc k) l = refl
    take_all (m ∷ ms) zero l = absurd (omega (arith, l))
    take_all (m ∷ ms) (suc k) l = ap (λ (z : List Noted). m ∷ z) (take_all ms k (omega (arith, l)))

-- before the first answer
pub none_played : (x : Planned) (ns : List code.Noted) (late : List (ℕ × Answer)) (h : List Event) → late ≡ [] → h ≡ []
    → HavePlayed x (take 0 (map noted_of ns)) late h
none_played x ns late h e i =
    subst (λ (l : List (ℕ × Answer)). HavePlayed x (take 0 (map noted_of ns)) l h) (sym e)
    (by (map noted_of ns))
  where
    by : (ms : List Noted) → HavePlayed x (take 0 ms) [] h
    by [] = record { none_refuses = tt; is_replay = i }
    by (m ∷ ms) = record { none_refuses = tt; is_replay = i }

-- ---- the loops

module _ (A : Type 0) where
  length_more : (ys : List A) (l : A) → length (ys ++ l ∷ []) ≡ suc (length ys)
  length_more [] l = refl
  length_more (y ∷ ys) l = ap (λ (n : ℕ). suc n) (length_more ys l)

  drop_here : (ls ys : List A) (l : A) → length ys < length ls → l ≡ get_or ls (length ys) l
      → drop (length ys) ls ≡ l ∷ drop (length (ys ++ l ∷ [])) ls
  drop_here ls ys l h e =
      next_after ls (length ys) l h e ∙ ap (λ (n : ℕ). l ∷ drop n ls) (sym (length_more ys l))

  drop_all : (ls : List A) (i : ℕ) → i ≡ length ls → drop i ls ≡ []
  drop_all [] zero e = refl
  drop_all [] (suc i) e = refl
  drop_all (l ∷ ls) zero e = absurd (omega (arith, e))
  drop_all (l ∷ ls) (suc i) e = drop_all ls i (omega (arith, e))

module _ (ls ys : List (ℕ × Answer)) (l : ℕ × Answer) (h : length ys < length ls)
    (e : l ≡ get_or ls (length ys) l) where
  here : drop (length ys) ls ≡ l ∷ drop (length (ys ++ l ∷ [])) ls
  here = drop_here (ℕ × Answer) ls ys l h e

  -- the first answer that is left may come
  pub may_come : (x : Planned) (p : Progress) → AreOpen x p (drop (length ys) ls) → MayEnd x p l.0 l.1
  may_come x p o = (subst (λ (z : List (ℕ × Answer)). AreOpen x p z) here o).0

  pub open_then : (x : Planned) (old new : List Event) → new ≡ old ++ late_event l ∷ []
      → AreOpen x (progress old) (drop (length ys) ls) → AreOpen x (progress new) (drop (length (ys ++ l ∷ [])) ls)
  open_then x old new i o =
      subst (λ (z : List Event). AreOpen x (progress z) (drop (length (ys ++ l ∷ [])) ls)) (sym i)
      (subst (λ (p : Progress). AreOpen x p (drop (length (ys ++ l ∷ [])) ls)) (sym (progress_more old (late_event l)))
      (open_rest x (progress old) l (drop (length (ys ++ l ∷ [])) ls)
      (subst (λ (z : List (ℕ × Answer)). AreOpen x (progress old) z) here o)))

  pub events_then : (all old new : List Event) → new ≡ old ++ late_event l ∷ []
      → old ++ map late_event (drop (length ys) ls) ≡ all
      → new ++ map late_event (drop (length (ys ++ l ∷ [])) ls) ≡ all
  events_then all old new i o =
      ap (λ (z : List Event). z ++ map late_event (drop (length (ys ++ l ∷ [])) ls)) i
      ∙ append_assoc old (late_event l ∷ []) (map late_event (drop (length (ys ++ l ∷ [])) ls))
      ∙ ap (λ (z : List (ℕ × Answer)). old ++ map late_event z) (sym here) ∙ o

pub events_end : (ls ys : List (ℕ × Answer)) (all old : List Event) → length ys ≡ length ls
    → old ++ map late_event (drop (length ys) ls) ≡ all → old ≡ all
events_end ls ys all old e o =
    sym (append-nil old) ∙ ap (λ (z : List (ℕ × Answer)). old ++ map late_event z)
    (sym (drop_all (ℕ × Answer) ls (length ys) e)) ∙ o

pub place_next : (i : ℕ) (ys : List code.Noted) (n : code.Noted) → i ≡ length ys → i + 1 ≡ length (ys ++ n ∷ [])
place_next i ys n e = let m = length_more code.Noted ys n in omega (arith, e, m)

pub played_next : (x : Planned) (ns ys : List code.Noted) (n : code.Noted) (late : List (ℕ × Answer)) (h : List Event)
    (r : Bool) → r ≡ true → length ys < length ns → n ≡ get_or ns (length ys) n
    → IsPlayedOn x (take (length ys) (map noted_of ns)) (noted_of n) late h r
    → HavePlayed x (take (length (ys ++ n ∷ [])) (map noted_of ns)) late h
played_next x ns ys n late h r e l g p =
    subst (λ (k : ℕ). HavePlayed x (take k (map noted_of ns)) late h) (sym (length_more code.Noted ys n))
    (played_more x ns (length ys) n late h r e l g p)

-- ---- what is returned

pub open_if : (x : Planned) (ns : List Noted) (late : List (ℕ × Answer)) (h : List Event) (bad : Option ℕ)
    → AreAllPlayed x ns late h bad → bad ≡ None → AreOpen x (progress h) late
open_if x ns late h bad p e =
    open_of x ns late h (subst (λ (b : Option ℕ). AreAllPlayed x ns late h b) e p)

pub replayed_as : (x y : Planned) (ns : List Noted) (late : List (ℕ × Answer)) (old new : List Event)
    (bad out : Option ℕ) → y ≡ x → ((ms : List Noted) → AreAllPlayed y ms late old bad → IsReplayed y ms new out)
    → AreAllPlayed x ns late old bad → IsReplayed x ns new out
replayed_as x y ns late old new bad out e f p =
    subst (λ (z : Planned). IsReplayed z ns new out) e
    (f ns (subst (λ (z : Planned). AreAllPlayed z ns late old bad) (sym e) p))

pub reopened_by : (x : Planned) (ns : List Noted) (old new : Past) (r : Result (Unit {0}) BoardFault) → ns ≢ []
    → IsReplay x at_opening ns old.events → IsLegal x old.events → OnOk r (new ≡ with_event old event.crash)
    → OnOk r (IsReopened x ns new.events)
reopened_by x [] old new r n p l h = absurd (n refl)
reopened_by x (m ∷ ns) old new (Ok done) n p l h = (old.events, (p, (l, ap (λ (q : Past). q.events) h)))
reopened_by x (m ∷ ns) old new (Err f) n p l h = tt

pub out_is_fault : (x : Planned) (ns : List Noted) (r : Result (Unit {0}) BoardFault)
    → IfErr r IsOut → IfErr r (IsBoardFault x ns)
out_is_fault x ns (Ok done) h = tt
out_is_fault x ns (Err OutOfMemory) h = tt
out_is_fault x ns (Err (BadAnswer i)) h = absurd h

pub some_mapped : (ns : List code.Noted) → ns ≢ [] → map noted_of ns ≢ []
some_mapped [] n e = n refl
some_mapped (m ∷ ns) n e = cc

pub not_reopened : (x : Planned) (ns : List code.Noted) (h : List Event) → ns ≡ [] → h ≡ []
    → IsReopened x (map noted_of ns) h
not_reopened x ns h e n = subst (λ (ms : List code.Noted). IsReopened x (map noted_of ms) h) (sym e) n

pub kept_ok : (x y : Planned) (t : Table) (tasks : ℕ) (h : List Event) (a : Agenda) (seen : ℕ)
    (r : Result (Unit {0}) BoardFault) → y ≡ x → OnOk r (IsKept y t tasks h a seen) → OnOk r (IsKept x t tasks h a seen)
kept_ok x y t tasks h a seen r e k = subst (λ (z : Planned). OnOk r (IsKept z t tasks h a seen)) e k

pub reopened_as : (x y : Planned) (ns : List Noted) (old new : List Event) (bad : Option ℕ)
    (r : Result (Unit {0}) BoardFault) → y ≡ x
    → ((ms : List Noted) → ms ≢ [] → IsReplayed y ms old bad → OnOk r (IsReopened y ms new))
    → ns ≢ [] → IsReplayed x ns old bad → OnOk r (IsReopened x ns new)
reopened_as x y ns old new bad r e f n p =
    subst (λ (z : Planned). OnOk r (IsReopened z ns new)) e
    (f ns n (subst (λ (z : Planned). IsReplayed z ns old bad) (sym e) p))

pub fault_as : (x y : Planned) (ns : List Noted) (old : List Event) (bad : Option ℕ)
    (r : Result (Unit {0}) BoardFault) → y ≡ x
    → ((ms : List Noted) → IsReplayed y ms old bad → IfErr r (IsBoardFault y ms))
    → IsReplayed x ns old bad → IfErr r (IsBoardFault x ns)
fault_as x y ns old bad r e f p =
    subst (λ (z : Planned). IfErr r (IsBoardFault z ns)) e
    (f ns (subst (λ (z : Planned). IsReplayed z ns old bad) (sym e) p))
