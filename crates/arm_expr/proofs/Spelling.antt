-- A text whose tokens are those of an expression spells it, whatever follows the text.
use Rattle.std.proofs.Common.{◌≡◌, ℕ, List, [], ◌∷◌, ◌++◌, refl, ap, ◌∙◌, append_assoc}
use Rattle.arm_expr.specs.Tree.{Tree, text, int, call, member, index, Trees, none, more}
use Rattle.arm_expr.specs.Tokens.{Token, a_text, an_int, a_name, open_paren, close_paren, open_bracket, close_bracket}
use Rattle.arm_expr.specs.Tokens.{comma, dot}
use Rattle.arm_expr.specs.Grammar.{doubled, ◌▹◌, blanks, mark, expression, arguments, further}
use Rattle.arm_expr.proofs.Words.{First, Writes, spelled, arguments_spelled, further_spelled}

-- the text is of a form up to a rest, which the tokens write
record Spelt (form : List ℕ → List ℕ → Type 0) (ts : List Token) (text back : List ℕ) : Type 0 where
  rest : List ℕ
  spells : form (text ++ back) (rest ++ back)
  writes : Writes ts rest

-- the blanks before a token
first_blanks : (t : Token) (rest chars back : List ℕ) (f : First t rest chars)
    → blanks (chars ++ back) (f.word ++ (rest ++ back))
first_blanks t rest chars back f = (
  f.blanks,
  f.are_blank,
  ap (λ x. x ++ back) f.chars_are ∙ append_assoc f.blanks (f.word ++ rest) back
      ∙ ap (λ x. f.blanks ++ x) (append_assoc f.word rest back),
)

string_is : (s word k : List ℕ) → word ≡ 39 ∷ (doubled s ++ 39 ∷ []) → word ++ k ≡ 39 ∷ (doubled s ++ 39 ∷ k)
string_is s word k h = ap (λ x. x ++ k) h ∙ ap (λ x. 39 ∷ x) (append_assoc (doubled s) (39 ∷ []) k)

mark_is : (c : ℕ) (word k : List ℕ) → word ≡ c ∷ [] → mark c (word ++ k) k
mark_is c word k h = ap (λ x. x ++ k) h

mutual
  spelt : (e : Tree) (ts : List Token) (chars back : List ℕ) → Writes (spelled e ts) chars
      → Spelt (blanks ▹ expression e) ts chars back
  spelt (text s) ts chars back w =
      let f = w.1 in
      record {
        rest = w.0;
        spells = (
          f.word ++ (w.0 ++ back),
          first_blanks (a_text s) w.0 chars back f,
          string_is s f.word (w.0 ++ back) f.is_word,
        );
        writes = w.2;
      }
  spelt (int z) ts chars back w =
      let f = w.1 in
      record {
        rest = w.0;
        spells =
            (f.word ++ (w.0 ++ back), first_blanks (an_int z) w.0 chars back f, (f.word, f.is_word, refl));
        writes =
            w.2;
      }
  spelt (call name es) ts chars back w =
      let f = w.1 in
      let o = w.2 in
      let p = o.1 in
      let a = spelt_arguments es ts o.0 back o.2 in
      record {
        rest = a.rest;
        spells = (
          f.word ++ (w.0 ++ back),
          first_blanks (a_name name) w.0 chars back f,
          (
            w.0 ++ back,
            (f.is_word.0, ap (λ x. x ++ (w.0 ++ back)) f.is_word.1),
            (
              p.word ++ (o.0 ++ back),
              first_blanks open_paren o.0 w.0 back p,
              (o.0 ++ back, mark_is 40 p.word (o.0 ++ back) p.is_word, a.spells),
            ),
          ),
        );
        writes = a.writes;
      }
  spelt (member e name) ts chars back w =
      let x = spelt e (dot ∷ a_name name ∷ ts) chars back w in
      let d = x.writes in
      let p = d.1 in
      let n = d.2 in
      let q = n.1 in
      record {
        rest = n.0;
        spells = (
          x.spells.0,
          x.spells.1,
          (
            x.rest ++ back,
            x.spells.2,
            (
              p.word ++ (d.0 ++ back),
              first_blanks dot d.0 x.rest back p,
              (
                d.0 ++ back,
                mark_is 46 p.word (d.0 ++ back) p.is_word,
                (
                  q.word ++ (n.0 ++ back),
                  first_blanks (a_name name) n.0 d.0 back q,
                  (q.is_word.0, ap (λ y. y ++ (n.0 ++ back)) q.is_word.1),
                ),
              ),
            ),
          ),
        );
        writes = n.2;
      }
  spelt (index e i) ts chars back w =
      let x = spelt e (open_bracket ∷ spelled i (close_bracket ∷ ts)) chars back w in
      let d = x.writes in
      let p = d.1 in
      let y = spelt i (close_bracket ∷ ts) d.0 back d.2 in
      let n = y.writes in
      let q = n.1 in
      record {
        rest = n.0;
        spells = (
          x.spells.0,
          x.spells.1,
          (
            x.rest ++ back,
            x.spells.2,
            (
              p.word ++ (d.0 ++ back),
              first_blanks open_bracket d.0 x.rest back p,
              (
                d.0 ++ back,
                mark_is 91 p.word (d.0 ++ back) p.is_word,
                (
                  y.spells.0,
                  y.spells.1,
                  (
                    y.rest ++ back,
                    y.spells.2,
                    (
                      q.word ++ (n.0 ++ back),
                      first_blanks close_bracket n.0 y.rest back q,
                      mark_is 93 q.word (n.0 ++ back) q.is_word,
                    ),
                  ),
                ),
              ),
            ),
          ),
        );
        writes = n.2;
      }

  spelt_arguments : (es : Trees) (ts : List Token) (chars back : List ℕ) → Writes (arguments_spelled es ts) chars
      → Spelt (arguments es ▹ mark 41) ts chars back
  spelt_arguments none ts chars back w =
      let f = w.1 in
      record {
        rest = w.0;
        spells = (
          f.word ++ (w.0 ++ back),
          first_blanks close_paren w.0 chars back f,
          mark_is 41 f.word (w.0 ++ back) f.is_word,
        );
        writes = w.2;
      }
  spelt_arguments (more e es) ts chars back w =
      let x = spelt e (further_spelled es ts) chars back w in
      let y = spelt_further es ts x.rest back x.writes in
      record {
        rest = y.rest;
        spells = (y.spells.0, (x.spells.0, x.spells.1, (x.rest ++ back, x.spells.2, y.spells.1)), y.spells.2);
        writes = y.writes;
      }

  spelt_further : (es : Trees) (ts : List Token) (chars back : List ℕ) → Writes (further_spelled es ts) chars
      → Spelt (further es ▹ mark 41) ts chars back
  spelt_further none ts chars back w =
      let f = w.1 in
      record {
        rest = w.0;
        spells = (
          f.word ++ (w.0 ++ back),
          first_blanks close_paren w.0 chars back f,
          mark_is 41 f.word (w.0 ++ back) f.is_word,
        );
        writes = w.2;
      }
  spelt_further (more e es) ts chars back w =
      let p = w.1 in
      let x = spelt e (further_spelled es ts) w.0 back w.2 in
      let y = spelt_further es ts x.rest back x.writes in
      record {
        rest = y.rest;
        spells = (
          y.spells.0,
          (
            p.word ++ (w.0 ++ back),
            first_blanks comma w.0 chars back p,
            (
              w.0 ++ back,
              mark_is 44 p.word (w.0 ++ back) p.is_word,
              (x.spells.0, x.spells.1, (x.rest ++ back, x.spells.2, y.spells.1)),
            ),
          ),
          y.spells.2,
        );
        writes = y.writes;
      }

-- all of a text, before what follows it
pub spelt_whole : (e : Tree) (chars back : List ℕ) → Writes (spelled e []) chars
    → (blanks ▹ expression e ▹ blanks) (chars ++ back) back
spelt_whole e chars back w =
    let x = spelt e [] chars back w in
    (x.spells.0, x.spells.1, (x.rest ++ back, x.spells.2, (x.rest, x.writes, refl)))
