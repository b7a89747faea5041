-- Texts as the grammar reads them.
use Rattle.std.proofs.Common.{ℕ, pos, Bool, true, false, List, [], ◌∷◌, codes, refl, arith}
use Rattle.bicep_tree.specs.declared.leaf.Name.{Name}
use Rattle.bicep_tree.specs.declared.leaf.Literal.TheVariants as l
use Rattle.bicep_tree.specs.declared.leaf.LoopNames.TheVariants as ns
use Rattle.bicep_tree.specs.declared.leaf.Function.TheVariants as f
use Rattle.bicep_tree.specs.declared.leaf.Namespace.TheVariants as space
use Rattle.bicep_tree.specs.declared.leaf.Access.TheVariants as a
use Rattle.bicep_tree.specs.declared.leaf.Prefix.TheVariants as p
use Rattle.bicep_tree.specs.declared.leaf.Operator.TheVariants as o
use Rattle.bicep_tree.specs.declared.terminal.Terminal.TheVariants as t
use Rattle.bicep_tree.specs.Tree.{Tree, name, literal, interpolated, array, call, prefixed, binary}
use Rattle.bicep_tree.specs.Tree.{conditional, none, more, no_hole, hole, braces, child, no_member}
use Rattle.bicep_tree.specs.Tree.{each, loop, no_decorator, resource, body_plain}
use Rattle.bicep_tree.specs.Terminals.{Placed}
use Rattle.bicep_tree.specs.Forms.{skipped}
use Rattle.bicep_tree.specs.Expressions.{expression, a_member, value}
use Rattle.bicep_tree.proofs.FormLemmas.{any_none, none_skipped, its_sign, its_token, its_token_at}

abbrev number : ℕ → ℕ → Tree
number at n = literal at (l.Number (pos n))

abbrev digit : ℕ → ℕ → Placed
digit at n = (at, t.Literal (l.Number (pos n)))

abbrev word : ℕ → List ℕ → Name
word at w = record { at = at; text = w }

abbrev line : ℕ → Placed
line at = (at, t.Newline)

number_read : (i : Bool) (at n : ℕ) (ks : List Placed) → expression i (number at n) (digit at n ∷ ks) ks
number_read i at n ks = its_token_at i at (t.Literal (l.Number (pos n))) ks

line_skipped : (at : ℕ) (ks : List Placed) → skipped true (line at ∷ ks) ks
line_skipped at ks = (line at ∷ [], (refl, tt), refl)

-- `1 +`, a newline, `2`
abbrev sum : Tree
sum = binary o.Add (number 0 1) (number 4 2)

sum_over_lines : (ks : List Placed)
    → expression false sum (digit 0 1 ∷ (2, t.Operator o.Add) ∷ line 3 ∷ digit 4 2 ∷ ks) ks
sum_over_lines ks =
    let rest = digit 4 2 ∷ ks in (
      (omega arith, omega arith),
      (
        (2, t.Operator o.Add) ∷ line 3 ∷ rest,
        number_read false 0 1 ((2, t.Operator o.Add) ∷ line 3 ∷ rest),
        (
          line 3 ∷ rest,
          its_token false 2 (t.Operator o.Add) (line 3 ∷ rest),
          (rest, line_skipped 3 rest, number_read false 4 2 ks),
        ),
      ),
    )

-- `[1`, a newline, `-2]` has two items
abbrev two_items : Tree
two_items = array 0 (more (number 1 1) (more (prefixed 3 p.Negate (number 4 2)) none))

items_over_lines : (ks : List Placed)
    → expression false two_items ((0, t.OpenBracket) ∷ digit 1 1 ∷ line 2 ∷ (3, t.Operator o.Subtract) ∷ digit 4 2
    ∷ (5, t.CloseBracket) ∷ ks) ks
items_over_lines ks =
    let end = (5, t.CloseBracket) ∷ ks in
    let second = (3, t.Operator o.Subtract) ∷ digit 4 2 ∷ end in
    let first = digit 1 1 ∷ line 2 ∷ second in (
      first,
      its_token_at false 0 t.OpenBracket first,
      (
        first,
        any_none _ first,
        (
          line 2 ∷ second,
          number_read false 1 1 (line 2 ∷ second),
          (
            second,
            (second, (2, t.Newline, refl, refl), any_none _ second),
            (
              end,
              (
                omega arith,
                (
                  digit 4 2 ∷ end,
                  its_token_at false 3 (t.Operator o.Subtract) (digit 4 2 ∷ end),
                  number_read false 4 2 end,
                ),
              ),
              (end, any_none _ end, its_sign 5 t.CloseBracket ks),
            ),
          ),
        ),
      ),
    )

-- `1 - 2 - 3` groups to the left
abbrev to_the_left : Tree
to_the_left = binary o.Subtract (binary o.Subtract (number 0 1) (number 4 2)) (number 8 3)

abbrev to_the_right : Tree
to_the_right = binary o.Subtract (number 0 1) (binary o.Subtract (number 4 2) (number 8 3))

abbrev chain : List Placed → List Placed
chain ks = digit 0 1 ∷ (2, t.Operator o.Subtract) ∷ digit 4 2 ∷ (6, t.Operator o.Subtract) ∷ digit 8 3 ∷ ks

chain_groups_left : (ks : List Placed) → expression false to_the_left (chain ks) ks
chain_groups_left ks =
    let third = digit 8 3 ∷ ks in
    let back = (6, t.Operator o.Subtract) ∷ third in
    let second = digit 4 2 ∷ back in (
      (omega arith, omega arith),
      (
        back,
        (
          (omega arith, omega arith),
          (
            (2, t.Operator o.Subtract) ∷ second,
            number_read false 0 1 ((2, t.Operator o.Subtract) ∷ second),
            (
              second,
              its_token false 2 (t.Operator o.Subtract) second,
              (second, none_skipped true second, number_read false 4 2 back),
            ),
          ),
        ),
        (
          third,
          its_token false 6 (t.Operator o.Subtract) third,
          (third, none_skipped true third, number_read false 8 3 ks),
        ),
      ),
    )

chain_does_not_group_right : (ts ks : List Placed) → expression false to_the_right ts ks → ⊥
chain_does_not_group_right ts ks h = omega (arith, h.0.1)

-- `c`, a newline, `? 1`, a newline, `: 2`
abbrev choice : Tree
choice = conditional (name (word 0 (codes "c"))) (number 4 1) (number 8 2)

choice_over_lines : (ks : List Placed)
    → expression false choice ((0, t.Name (codes "c")) ∷ line 1 ∷ (2, t.Question) ∷ digit 4 1 ∷ line 5 ∷ (6, t.Colon)
    ∷ digit 8 2 ∷ ks) ks
choice_over_lines ks =
    let last = digit 8 2 ∷ ks in
    let colon = (6, t.Colon) ∷ last in
    let chosen = digit 4 1 ∷ line 5 ∷ colon in
    let question = (2, t.Question) ∷ chosen in (
      omega arith,
      (
        line 1 ∷ question,
        its_token_at false 0 (t.Name (codes "c")) (line 1 ∷ question),
        (
          chosen,
          (question, line_skipped 1 question, its_sign 2 t.Question chosen),
          (
            chosen,
            none_skipped true chosen,
            (
              line 5 ∷ colon,
              number_read false 4 1 (line 5 ∷ colon),
              (
                last,
                (colon, line_skipped 5 colon, its_sign 6 t.Colon last),
                (last, none_skipped true last, number_read false 8 2 ks),
              ),
            ),
          ),
        ),
      ),
    )

-- `sys.f(1)`
abbrev qualified : Tree
qualified = call (f.Qualified 0 space.Sys (word 4 (codes "f"))) (more (number 6 1) none)

qualified_call : (ks : List Placed)
    → expression false qualified ((0, t.Name (codes "sys")) ∷ (3, t.Access a.Member) ∷ (4, t.Name (codes "f"))
    ∷ (5, t.OpenParen) ∷ digit 6 1 ∷ (7, t.CloseParen) ∷ ks) ks
qualified_call ks =
    let end = (7, t.CloseParen) ∷ ks in
    let parens = (5, t.OpenParen) ∷ digit 6 1 ∷ end in
    let called = (4, t.Name (codes "f")) ∷ parens in
    let dot = (3, t.Access a.Member) ∷ called in (
      parens,
      (
        dot,
        its_token_at false 0 (t.Name (codes "sys")) dot,
        (called, its_token false 3 (t.Access a.Member) called, its_token_at false 4 (t.Name (codes "f")) parens),
      ),
      (
        digit 6 1 ∷ end,
        its_token false 5 t.OpenParen (digit 6 1 ∷ end),
        (end, number_read true 6 1 end, its_token true 7 t.CloseParen ks),
      ),
    )

-- `'a${1}b'`
abbrev text : Tree
text = interpolated 0 (codes "a") (hole (number 4 1) (codes "b") no_hole)

interpolated_text : (ks : List Placed)
    → expression false text ((0, t.LeftPiece (codes "a")) ∷ digit 4 1 ∷ (5, t.RightPiece (codes "b")) ∷ ks) ks
interpolated_text ks =
    let end = (5, t.RightPiece (codes "b")) ∷ ks in (
      digit 4 1 ∷ end,
      its_token_at false 0 (t.LeftPiece (codes "a")) (digit 4 1 ∷ end),
      (end, number_read false 4 1 end, its_token false 5 (t.RightPiece (codes "b")) ks),
    )

-- `[for x in xs: 1]` as a value
for_expression : (ks : List Placed)
    → value (each (loop 0 (ns.Item (word 5 (codes "x"))) (name (word 10 (codes "xs")))) (number 14 1))
    ((0, t.OpenBracket) ∷ (1, t.Name (codes "for")) ∷ (5, t.Name (codes "x")) ∷ (7, t.Name (codes "in"))
    ∷ (10, t.Name (codes "xs")) ∷ (12, t.Colon) ∷ digit 14 1 ∷ (15, t.CloseBracket) ∷ ks) ks
for_expression ks =
    let end = (15, t.CloseBracket) ∷ ks in
    let body = digit 14 1 ∷ end in
    let colon = (12, t.Colon) ∷ body in
    let over = (10, t.Name (codes "xs")) ∷ colon in
    let among = (7, t.Name (codes "in")) ∷ over in
    let item = (5, t.Name (codes "x")) ∷ among in
    let begun = (1, t.Name (codes "for")) ∷ item in (
      body,
      (
        begun,
        refl,
        (
          item,
          its_sign 1 (t.Name (codes "for")) item,
          (
            among,
            its_token_at false 5 (t.Name (codes "x")) among,
            (
              over,
              its_sign 7 (t.Name (codes "in")) over,
              (colon, its_token_at false 10 (t.Name (codes "xs")) colon, its_sign 12 t.Colon body),
            ),
          ),
        ),
      ),
      (end, number_read false 14 1 end, its_sign 15 t.CloseBracket ks),
    )

-- `resource c 'kids' = {}` in an object is a nested resource
nested_resource : (ks : List Placed)
    → a_member
    (child no_decorator (resource 0 (word 9 (codes "c")) (record { at = 11; text = codes "kids" }) false
    (body_plain (braces 20 no_member))))
    ((0, t.Name (codes "resource")) ∷ (9, t.Name (codes "c")) ∷ (11, t.Literal (l.Text (codes "kids")))
    ∷ (18, t.Assign) ∷ (20, t.OpenBrace) ∷ (21, t.CloseBrace) ∷ ks) ks
nested_resource ks =
    let closed = (21, t.CloseBrace) ∷ ks in
    let braces = (20, t.OpenBrace) ∷ closed in
    let assigned = (18, t.Assign) ∷ braces in
    let typed = (11, t.Literal (l.Text (codes "kids"))) ∷ assigned in
    let named = (9, t.Name (codes "c")) ∷ typed in (
      (0, t.Name (codes "resource")) ∷ named,
      refl,
      (
        named,
        refl,
        (
          typed,
          its_token_at false 9 (t.Name (codes "c")) typed,
          (
            assigned,
            refl,
            (
              assigned,
              refl,
              (
                braces,
                its_sign 18 t.Assign braces,
                (
                  closed,
                  its_token_at false 20 t.OpenBrace closed,
                  (closed, any_none _ closed, its_sign 21 t.CloseBrace ks),
                ),
              ),
            ),
          ),
        ),
      ),
    )
