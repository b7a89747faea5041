-- No file within the limit begins with tokens after which something nests too deep.
use Rattle.std.proofs.Common.{◌≡◌, ℕ, ◌<◌, ◌≤◌, max, nat_lt, List, [], ◌∷◌, map, Bool, true, false, Option, Some}
use Rattle.std.proofs.Common.{None, option_and_then, refl, ap, ◌∙◌, subst, arith}
use Rattle.std.proofs.lemmas.Bool.Decides.{nat_tests}
use Rattle.bicep_lexer.specs.Reading.{Standing}
use Rattle.bicep_tree.specs.Tree.{name, access, StatementTree, FileTree}
use Rattle.bicep_tree.specs.Nesting.{file_nesting}
use Rattle.bicep_tree.specs.Terminals.{Placed, placed}
use Rattle.bicep_tree.specs.Declarations.{Spells}
use Rattle.bicep_tree.specs.declared.leaf.Access.TheVariants as a
use Rattle.bicep_machine.specs.declared.word.Word.TheVariants as w
use Rattle.bicep_machine.specs.Kept.{Kept, flat, gap, of_access}
use Rattle.bicep_machine.specs.Stack as s
use Rattle.bicep_machine.specs.Stack.{Frame, assigned, in_file, State, qualified, done, paused, typed, between}
use Rattle.bicep_machine.specs.Stack.{past_statement, Next}
use Rattle.bicep_machine.specs.Closing.{Closed, of_statement, with_expression, closed}
use Rattle.bicep_machine.specs.Machine.{step, ended, ended_by, ended_between, finished, run, parsed}
use Rattle.bicep_machine.specs.Spelled.{IsKept}
use Rattle.bicep_machine.proofs.Spelling.{spelled_is_read}
use Rattle.bicep_parser.specs.Depth.{stack_depth, deepest}
use Rattle.bicep_parser.proofs.Deepening.{Marked, Keeps, up, closed_depth, closed_keeps, assigned_deep}
use Rattle.bicep_parser.proofs.DeepeningSteps.{step_keeps}

-- a file that is kept nests too deep
abbrev IsDeep : Option (Kept FileTree) → Type 0
IsDeep None = Unit {0}
IsDeep (Some k) = 64 < k.1

ended_deep : (st : Kept StatementTree) (S : List Frame) → 64 < max st.1 (stack_depth S) → IsDeep (ended 64 st S)
ended_deep st [] h = tt
ended_deep st (in_file ss ∷ []) h = omega arith
ended_deep st (in_file ss ∷ (F ∷ S)) h = tt
ended_deep st (F ∷ S) h = tt

ended_by_deep : (p : Closed) → 64 < closed_depth p → IsDeep (ended_by 64 p)
ended_by_deep (e, []) h = tt
ended_by_deep (e, assigned ds d ∷ S) h =
    ended_deep (of_statement ds (with_expression d e)) S (assigned_deep ds d e (stack_depth S) h)
ended_by_deep (e, F ∷ S) h = tt

between_deep : (S : List Frame) → 64 < stack_depth S → IsDeep (ended_between 64 S)
between_deep [] h = tt
between_deep (in_file ss ∷ []) h = omega arith
between_deep (in_file ss ∷ (F ∷ S)) h = tt
between_deep (F ∷ S) h = tt

finished_deep : (st : State) (S : List Frame) → 64 < deepest st S → IsDeep (finished 64 st S)
finished_deep between S h = between_deep S (omega arith)
finished_deep (past_statement st) S h = ended_deep st S h
finished_deep (typed ds from w.Param n ty) S h = ended_deep _ S (omega arith)
finished_deep (s.named n) S h =
    ended_by_deep (closed 64 0 (flat (name n)) S) (closed_keeps S 0 (flat (name n)) (omega arith))
finished_deep (qualified q n m) S h = ended_by_deep (closed 64 0 (of_access 64 (flat (name n)) a.Member m) S)
    (closed_keeps S 0 (of_access 64 (flat (name n)) a.Member m)
    (up gap (access (name n) a.Member m) 0 (stack_depth S) (omega arith)))
finished_deep (done e) S h = ended_by_deep (closed 64 0 e S) (closed_keeps S 0 e h)
finished_deep (paused e) S h = ended_by_deep (closed 64 0 e S) (closed_keeps S 0 e h)
finished_deep st S h = tt

next_deep : (n : ℕ) (ts : List Placed) (r : Next)
    → ((st : State) (i : Bool) (S : List Frame) → Marked st → 64 < deepest st S → IsDeep (run 64 st i S ts))
    → Keeps n r → 64 < n → IsDeep (option_and_then (λ q. run 64 q.0 q.1 q.2 ts) r)
next_deep n ts None go k h = tt
next_deep n ts (Some q) go k h = go q.0 q.1 q.2 k.0 (k.1 h)

-- what is read after something too deep is too deep
pub run_deep : (ts : List Placed) (st : State) (i : Bool) (S : List Frame) → Marked st → 64 < deepest st S
    → IsDeep (run 64 st i S ts)
run_deep [] st i S m h = finished_deep st S h
run_deep (t ∷ ts) st i S m h = next_deep (deepest st S) ts (step 64 st i S t) (run_deep ts) (step_keeps st i S t m) h

-- a file that is kept as too deep nests too deep
nests : (f : FileTree) (k : Kept FileTree) → IsKept 64 f k → 64 < k.1 → 64 < file_nesting f
nests f k is high = by (nat_lt 64 (file_nesting f)) refl
  where
    by : (b : Bool) → nat_lt 64 (file_nesting f) ≡ b → 64 < file_nesting f
    by true e = grind (arith, nat_tests)
    by false e =
        let le : file_nesting f ≤ 64 = grind (arith, nat_tests) in
        let same : k.1 ≡ file_nesting f = ap (λ x. x.1) (is.whole le) in
        absurd (omega arith)

-- a file that begins with such tokens nests too deep
pub file_deep : (ts : List Standing) (more : List Placed) (st : State) (i : Bool) (S : List Frame)
    → run 64 st i S more ≡ parsed 64 (map placed ts) → Marked st → 64 < deepest st S → (f : FileTree) → Spells f ts
    → 64 < file_nesting f
file_deep ts more st i S leads m h f sp =
    let r = spelled_is_read 64 f (map placed ts) (omega arith) sp in
    nests f r.0 r.2 (subst IsDeep (leads ∙ r.1) (run_deep more st i S m h))
