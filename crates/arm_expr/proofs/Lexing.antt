-- The lexer gives the tokens of what the grammar spells.
use Rattle.std.proofs.Common.{◌≡◌, ℕ, ℤ, Bool, true, false, eqb, cond, List, [], ◌∷◌, ◌++◌, Option, Some, None}
use Rattle.std.proofs.Common.{option_map, option_and_then, refl, ap, sym, ◌∙◌, append_assoc, append-nil}
use Rattle.std.proofs.lemmas.Bool.{eqb-true}
use Rattle.arm_expr.specs.Tree.{Tree, text, int, call, member, index, Trees, none, more}
use Rattle.arm_expr.specs.Tokens.{Token, a_text, an_int, a_name, open_paren, close_paren, open_bracket, close_bracket}
use Rattle.arm_expr.specs.Tokens.{comma, dot}
use Rattle.arm_expr.specs.Grammar.{Kind, letter, digit, blank, sign, kind_of, goes_on_name, is_digit, AreBlank}
use Rattle.arm_expr.specs.Grammar.{GoOnName, IsName, AreDigits, value_from, fits, signed, with_sign, doubled}
use Rattle.arm_expr.specs.Grammar.{IsNumeral, ◌▹◌, blanks, mark, named, expression, arguments, further}
use Rattle.arm_expr.specs.Grammar as grammar
use Rattle.arm_expr.specs.Lexer.{Pending, between, naming, signing, counting, quoting, quoted, Turn, start_by, start}
use Rattle.arm_expr.specs.Lexer.{after_token, number, lex}
use Rattle.arm_expr.proofs.Words.{spelled, arguments_spelled, further_spelled}

abbrev follow : Turn → List ℕ → Option (List Token)
follow o cs = option_and_then (λ q. option_map (λ ts. q.0 ++ ts) (lex q.1 cs)) o

abbrev with_first : Token → Option (List Token) → Option (List Token)
with_first t o = option_map (λ ts. t ∷ ts) o

follow_after : (t : Token) (o : Turn) (cs : List ℕ) → follow (after_token t o) cs ≡ with_first t (follow o cs)
follow_after t None cs = refl
follow_after t (Some q) cs =
    elim (lex q.1 cs) as (λ r. option_map (λ ts. (t ∷ q.0) ++ ts) r ≡ with_first t (option_map (λ ts. q.0 ++ ts) r))
    [ None ↦ refl | Some ts ↦ refl ]

follow_none : (q : Pending) (cs : List ℕ) → follow (Some ([], q)) cs ≡ lex q cs
follow_none q cs = elim (lex q cs) as (λ r. option_map (λ ts. [] ++ ts) r ≡ r) [ None ↦ refl | Some ts ↦ refl ]

-- no word goes on into the text
abbrev Ends : List ℕ → Type 0
Ends [] = Unit {0}
Ends (c ∷ cs) = (goes_on_name (kind_of c) ≡ false) × (is_digit (kind_of c) ≡ false) × (eqb c 39 ≡ false)

lex-blanks : (bs rest : List ℕ) → AreBlank bs → lex between (bs ++ rest) ≡ lex between rest
lex-blanks [] rest h = refl
lex-blanks (b ∷ bs) rest h = ap (λ k. follow (start_by k b) (bs ++ rest)) h.0 ∙ follow_none between (bs ++ rest)
    ∙ lex-blanks bs rest h.1

pub lex-blank : (bs : List ℕ) → AreBlank bs → lex between bs ≡ Some []
lex-blank [] h = refl
lex-blank (b ∷ bs) h = ap (λ k. follow (start_by k b) bs) h.0 ∙ follow_none between bs ∙ lex-blank bs h.1

naming_more : (w v rest : List ℕ) → GoOnName v → lex (naming w) (v ++ rest) ≡ lex (naming (w ++ v)) rest
naming_more w [] rest h = ap (λ x. lex (naming x) rest) (sym (append-nil w))
naming_more w (c ∷ v) rest h =
    ap (λ b. follow (cond b (Some ([], naming (w ++ c ∷ []))) (after_token (a_name w) (start c))) (v ++ rest)) h.0
    ∙ follow_none (naming (w ++ c ∷ [])) (v ++ rest)
    ∙ naming_more (w ++ c ∷ []) v rest h.1
    ∙ ap (λ x. lex (naming x) rest) (append_assoc w (c ∷ []) v)

naming_ends : (w rest : List ℕ) → Ends rest → lex (naming w) rest ≡ with_first (a_name w) (lex between rest)
naming_ends w [] h = refl
naming_ends w (c ∷ cs) h =
    ap (λ b. follow (cond b (Some ([], naming (w ++ c ∷ []))) (after_token (a_name w) (start c))) cs) h.0
    ∙ follow_after (a_name w) (start c) cs

counting_more : (n : Bool) (w v rest : List ℕ) → AreDigits v
    → lex (counting n w) (v ++ rest) ≡ lex (counting n (w ++ v)) rest
counting_more n w [] rest h = ap (λ x. lex (counting n x) rest) (sym (append-nil w))
counting_more n w (c ∷ v) rest h =
    ap (λ b. follow
    (cond b (Some ([], counting n (w ++ c ∷ []))) (option_and_then (λ t. after_token t (start c)) (number n w)))
    (v ++ rest)) h.0
    ∙ follow_none (counting n (w ++ c ∷ [])) (v ++ rest)
    ∙ counting_more n (w ++ c ∷ []) v rest h.1
    ∙ ap (λ x. lex (counting n x) rest) (append_assoc w (c ∷ []) v)

counting_ends : (n : Bool) (w rest : List ℕ) (t : Token) → number n w ≡ Some t → Ends rest
    → lex (counting n w) rest ≡ with_first t (lex between rest)
counting_ends n w [] t is h = ap (λ o. option_map (λ x. x ∷ []) o) is
counting_ends n w (c ∷ cs) t is h =
    ap (λ b. follow
    (cond b (Some ([], counting n (w ++ c ∷ []))) (option_and_then (λ x. after_token x (start c)) (number n w)))
    cs) h.1
    ∙ ap (λ o. follow (option_and_then (λ x. after_token x (start c)) o) cs) is
    ∙ follow_after t (start c) cs

quoting_one : (s : List ℕ) (c : ℕ) (v rest : List ℕ) (b : Bool) → eqb c 39 ≡ b
    → ((w : List ℕ) → lex (quoting w) (doubled v ++ 39 ∷ rest) ≡ lex (quoted (w ++ v)) rest)
    → lex (quoting s) (cond b (39 ∷ 39 ∷ doubled v) (c ∷ doubled v) ++ 39 ∷ rest) ≡ lex (quoted (s ++ c ∷ v)) rest
quoting_one s c v rest true is go =
    follow_none (quoted s) (39 ∷ (doubled v ++ 39 ∷ rest))
    ∙ follow_none (quoting (s ++ 39 ∷ [])) (doubled v ++ 39 ∷ rest)
    ∙ go (s ++ 39 ∷ [])
    ∙ ap (λ x. lex (quoted x) rest) (append_assoc s (39 ∷ []) v)
    ∙ ap (λ x. lex (quoted (s ++ x ∷ v)) rest) (sym (eqb-true c 39 is))
quoting_one s c v rest false is go =
    ap (λ b. follow (cond b (Some ([], quoted s)) (Some ([], quoting (s ++ c ∷ [])))) (doubled v ++ 39 ∷ rest)) is
    ∙ follow_none (quoting (s ++ c ∷ [])) (doubled v ++ 39 ∷ rest)
    ∙ go (s ++ c ∷ [])
    ∙ ap (λ x. lex (quoted x) rest) (append_assoc s (c ∷ []) v)

quoting_more : (s v rest : List ℕ) → lex (quoting s) (doubled v ++ 39 ∷ rest) ≡ lex (quoted (s ++ v)) rest
quoting_more s [] rest = follow_none (quoted s) rest ∙ ap (λ x. lex (quoted x) rest) (sym (append-nil s))
quoting_more s (c ∷ v) rest = quoting_one s c v rest (eqb c 39) refl (λ w. quoting_more w v rest)

quoted_ends : (s rest : List ℕ) → Ends rest → lex (quoted s) rest ≡ with_first (a_text s) (lex between rest)
quoted_ends s [] h = refl
quoted_ends s (c ∷ cs) h =
    ap (λ b. follow (cond b (Some ([], quoting (s ++ 39 ∷ []))) (after_token (a_text s) (start c))) cs) h.2
    ∙ follow_after (a_text s) (start c) cs

number_is : (n : Bool) (ds : List ℕ) → fits n (value_from 0 ds) ≡ true
    → number n ds ≡ Some (an_int (signed n (value_from 0 ds)))
number_is n ds h = ap (λ b. cond b (Some (an_int (signed n (value_from 0 ds)))) None) h

digit_starts : (k : Kind) (c : ℕ) → is_digit k ≡ true → start_by k c ≡ Some ([], counting false (c ∷ []))
digit_starts digit c h = refl
digit_starts blank c h = cc
digit_starts letter c h = cc
digit_starts sign c h = cc

digits_written : (n : Bool) (d : ℕ) (ds rest : List ℕ) → AreDigits (d ∷ ds)
    → lex between (with_sign n (d ∷ ds) ++ rest) ≡ lex (counting n (d ∷ ds)) rest
digits_written false d ds rest h =
    ap (λ o. follow o (ds ++ rest)) (digit_starts (kind_of d) d h.0)
    ∙ follow_none (counting false (d ∷ [])) (ds ++ rest)
    ∙ counting_more false (d ∷ []) ds rest h.1
digits_written true d ds rest h =
    follow_none signing (d ∷ (ds ++ rest))
    ∙ ap (λ b. follow (cond b (Some ([], counting true (d ∷ []))) None) (ds ++ rest)) h.0
    ∙ follow_none (counting true (d ∷ [])) (ds ++ rest)
    ∙ counting_more true (d ∷ []) ds rest h.1

-- the words
name_written : (n rest : List ℕ) → IsName n → Ends rest
    → lex between (n ++ rest) ≡ with_first (a_name n) (lex between rest)
name_written [] rest h e = absurd h
name_written (c ∷ cs) rest h e =
    ap (λ k. follow (start_by k c) (cs ++ rest)) h.0
    ∙ follow_none (naming (c ∷ [])) (cs ++ rest)
    ∙ naming_more (c ∷ []) cs rest h.1
    ∙ naming_ends (c ∷ cs) rest e

int_written : (z : ℤ) (word rest : List ℕ) → IsNumeral word z → Ends rest
    → lex between (word ++ rest) ≡ with_first (an_int z) (lex between rest)
int_written z word rest h e =
    let n = h.negative in
    let ds : List ℕ = h.first ∷ h.digits in
    let is : number n ds ≡ Some (an_int z) = number_is n ds h.within ∙ ap (λ y. Some (an_int y)) (sym h.value_is) in
    ap (λ w. lex between (w ++ rest)) h.word_is ∙ digits_written n h.first h.digits rest h.are_digits
    ∙ counting_ends n ds rest (an_int z) is e

text_written : (s rest : List ℕ) → Ends rest
    → lex between (39 ∷ (doubled s ++ 39 ∷ rest)) ≡ with_first (a_text s) (lex between rest)
text_written s rest e = follow_none (quoting []) (doubled s ++ 39 ∷ rest) ∙ quoting_more [] s rest
    ∙ quoted_ends s rest e

no_quote : (c : ℕ) → kind_of c ≡ blank → eqb c 39 ≡ false
no_quote c h = by (eqb c 39) refl
  where
    by : (b : Bool) → eqb c 39 ≡ b → b ≡ false
    by false e = refl
    by true e = let q : sign ≡ blank = ap kind_of (sym (eqb-true c 39 e)) ∙ h in cc

blanks_end : (bs k : List ℕ) → AreBlank bs → Ends k → Ends (bs ++ k)
blanks_end [] k h e = e
blanks_end (b ∷ bs) k h e = (ap goes_on_name h.0, ap is_digit h.0, no_quote b h.0)

pub blank_ends : (bs : List ℕ) → AreBlank bs → Ends bs
blank_ends [] h = tt
blank_ends (b ∷ bs) h = (ap goes_on_name h.0, ap is_digit h.0, no_quote b h.0)

-- the text is a front, of which the lexer gives that, and then `back`
pub record Cut (text back : List ℕ) (o : Option (List Token)) : Type 0 where
  pub front : List ℕ
  pub is : text ≡ front ++ back
  pub lexed : lex between front ≡ o

-- the same, and no word goes on into the front
pub record Ended (text back : List ℕ) (o : Option (List Token)) : Type 0 where
  pub cut : Cut text back o
  pub ends : Ends cut.front

pub cut_blanks : (t k u : List ℕ) (o : Option (List Token)) → blanks t k → Cut k u o → Cut t u o
cut_blanks t k u o b c = record {
  front = b.0 ++ c.front;
  is = b.2 ∙ ap (λ x. b.0 ++ x) c.is ∙ sym (append_assoc b.0 c.front u);
  lexed = lex-blanks b.0 c.front b.1 ∙ c.lexed;
}

ended_blanks : (t k u : List ℕ) (o : Option (List Token)) → blanks t k → Ended k u o → Ended t u o
unfolding cut_blanks
ended_blanks t k u o b e = record {
  cut = cut_blanks t k u o b e.cut;
  ends = blanks_end b.0 e.cut.front b.1 e.ends;
}

ended_by : (c : ℕ) (m : Token) (t k u : List ℕ) (o : Option (List Token)) → ((xs : List ℕ) → Ends (c ∷ xs))
    → ((xs : List ℕ) → lex between (c ∷ xs) ≡ with_first m (lex between xs)) → mark c t k → Cut k u o
    → Ended t u (with_first m o)
ended_by c m t k u o ends lexes is cut = record {
  cut = record {
    front = c ∷ cut.front;
    is = is ∙ ap (λ x. c ∷ x) cut.is;
    lexed = lexes cut.front
        ∙ ap (with_first m) cut.lexed;
  };
  ends = ends cut.front;
}

open_paren_ended : (t k u : List ℕ) (o : Option (List Token)) → mark 40 t k → Cut k u o
    → Ended t u (with_first open_paren o)
open_paren_ended t k u o = ended_by 40 open_paren t k u o (λ xs. (refl, refl, refl)) (λ xs. refl)

close_paren_ended : (t k u : List ℕ) (o : Option (List Token)) → mark 41 t k → Cut k u o
    → Ended t u (with_first close_paren o)
close_paren_ended t k u o = ended_by 41 close_paren t k u o (λ xs. (refl, refl, refl)) (λ xs. refl)

open_bracket_ended : (t k u : List ℕ) (o : Option (List Token)) → mark 91 t k → Cut k u o
    → Ended t u (with_first open_bracket o)
open_bracket_ended t k u o = ended_by 91 open_bracket t k u o (λ xs. (refl, refl, refl)) (λ xs. refl)

close_bracket_ended : (t k u : List ℕ) (o : Option (List Token)) → mark 93 t k → Cut k u o
    → Ended t u (with_first close_bracket o)
close_bracket_ended t k u o = ended_by 93 close_bracket t k u o (λ xs. (refl, refl, refl)) (λ xs. refl)

comma_ended : (t k u : List ℕ) (o : Option (List Token)) → mark 44 t k → Cut k u o → Ended t u (with_first comma o)
comma_ended t k u o = ended_by 44 comma t k u o (λ xs. (refl, refl, refl)) (λ xs. refl)

dot_ended : (t k u : List ℕ) (o : Option (List Token)) → mark 46 t k → Cut k u o → Ended t u (with_first dot o)
dot_ended t k u o = ended_by 46 dot t k u o (λ xs. (refl, refl, refl)) (λ xs. refl)

cut_name : (name t k u : List ℕ) (o : Option (List Token)) → named name t k → Ended k u o
    → Cut t u (with_first (a_name name) o)
cut_name name t k u o n e = record {
  front = name ++ e.cut.front;
  is = n.1 ∙ ap (λ x. name ++ x) e.cut.is ∙ sym (append_assoc name e.cut.front u);
  lexed = name_written name e.cut.front n.0 e.ends ∙ ap (with_first (a_name name)) e.cut.lexed;
}

cut_int : (z : ℤ) (t k u : List ℕ) (o : Option (List Token)) → grammar.numeral z t k → Ended k u o
    → Cut t u (with_first (an_int z) o)
cut_int z t k u o n e = record {
  front = n.0 ++ e.cut.front;
  is = n.2 ∙ ap (λ x. n.0 ++ x) e.cut.is ∙ sym (append_assoc n.0 e.cut.front u);
  lexed = int_written z n.0 e.cut.front n.1 e.ends ∙ ap (with_first (an_int z)) e.cut.lexed;
}

cut_text : (s t k u : List ℕ) (o : Option (List Token)) → grammar.quoted s t k → Ended k u o
    → Cut t u (with_first (a_text s) o)
cut_text s t k u o q e = record {
  front = 39 ∷ (doubled s ++ 39 ∷ e.cut.front);
  is = q ∙ ap (λ x. 39 ∷ (doubled s ++ 39 ∷ x)) e.cut.is
      ∙ ap (λ x. 39 ∷ x) (sym (append_assoc (doubled s) (39 ∷ e.cut.front) u));
  lexed = text_written s e.cut.front e.ends ∙ ap (with_first (a_text s)) e.cut.lexed;
}

along : (t u : List ℕ) (o p : Option (List Token)) → o ≡ p → Cut t u o → Cut t u p
along t u o p h c = record { front = c.front; is = c.is; lexed = c.lexed ∙ h }

ended_along : (t u : List ℕ) (o p : Option (List Token)) → o ≡ p → Ended t u o → Ended t u p
unfolding along
ended_along t u o p h e = record { cut = along t u o p h e.cut; ends = e.ends }

-- two ways of going on
joined : (f g : List Token → List Token) (h : List Token → List Token) → ((k : List Token) → f (g k) ≡ h k)
    → (o : Option (List Token)) → option_map f (option_map g o) ≡ option_map h o
joined f g h same None = refl
joined f g h same (Some k) = ap (λ x. Some x) (same k)

mutual
  pub cut_expression : (e : Tree) (t k u : List ℕ) (o : Option (List Token)) → expression e t k → Ended k u o
      → Cut t u (option_map (spelled e) o)
  cut_expression (text s) t k u o h e = cut_text s t k u o h e
  cut_expression (int z) t k u o h e = cut_int z t k u o h e
  cut_expression (call name es) t k u o h e =
      along t u _ _ (joined (λ ts. a_name name ∷ ts) (λ ts. open_paren ∷ arguments_spelled es ts)
      (spelled (call name es)) (λ ts. refl) o)
      (cut_name name t h.0 u _ h.1
      (ended_blanks h.0 h.2.0 u _ h.2.1
      (ended_along h.2.0 u _ _
      (joined (λ ts. open_paren ∷ ts) (arguments_spelled es) (λ ts. open_paren ∷ arguments_spelled es ts)
      (λ ts. refl) o)
      (open_paren_ended h.2.0 h.2.2.0 u _ h.2.2.1 (cut_arguments es h.2.2.0 k u o h.2.2.2 e.cut)))))
  cut_expression (member x name) t k u o h e =
      along t u _ _ (joined (spelled x) (λ ts. dot ∷ a_name name ∷ ts) (spelled (member x name)) (λ ts. refl) o)
      (cut_expression x t h.0 u _ h.1
      (ended_blanks h.0 h.2.0 u _ h.2.1
      (ended_along h.2.0 u _ _ (joined (λ ts. dot ∷ ts) (λ ts. a_name name ∷ ts) (λ ts. dot ∷ a_name name ∷ ts)
      (λ ts. refl) o)
      (dot_ended h.2.0 h.2.2.0 u _ h.2.2.1
      (cut_blanks h.2.2.0 h.2.2.2.0 u _ h.2.2.2.1 (cut_name name h.2.2.2.0 k u o h.2.2.2.2 e))))))
  cut_expression (index x i) t k u o h e =
      along t u _ _ (joined (spelled x) (λ ts. open_bracket ∷ spelled i (close_bracket ∷ ts)) (spelled (index x i))
      (λ ts. refl) o)
      (cut_expression x t h.0 u _ h.1
      (ended_blanks h.0 h.2.0 u _ h.2.1
      (ended_along h.2.0 u _ _
      (joined (λ ts. open_bracket ∷ ts) (λ ts. spelled i (close_bracket ∷ ts))
      (λ ts. open_bracket ∷ spelled i (close_bracket ∷ ts)) (λ ts. refl) o)
      (open_bracket_ended h.2.0 h.2.2.0 u _ h.2.2.1
      (along h.2.2.0 u _ _ (joined (spelled i) (λ ts. close_bracket ∷ ts) (λ ts. spelled i (close_bracket ∷ ts))
      (λ ts. refl) o)
      (cut_blanks h.2.2.0 h.2.2.2.0 u _ h.2.2.2.1
      (cut_expression i h.2.2.2.0 h.2.2.2.2.0 u _ h.2.2.2.2.1
      (ended_blanks h.2.2.2.2.0 h.2.2.2.2.2.0 u _ h.2.2.2.2.2.1
      (close_bracket_ended h.2.2.2.2.2.0 k u o h.2.2.2.2.2.2 e.cut)))))))))

  cut_arguments : (es : Trees) (t k u : List ℕ) (o : Option (List Token)) → (arguments es ▹ mark 41) t k → Cut k u o
      → Cut t u (option_map (arguments_spelled es) o)
  cut_arguments none t k u o h c = cut_blanks t h.0 u _ h.1 (close_paren_ended h.0 k u o h.2 c).cut
  cut_arguments (more e es) t k u o h c =
      let a = h.1 in
      along t u _ _ (joined (spelled e) (further_spelled es) (arguments_spelled (more e es)) (λ ts. refl) o)
      (cut_blanks t a.0 u _ a.1
      (cut_expression e a.0 a.2.0 u _ a.2.1 (ended_further es a.2.0 k u o (h.0, a.2.2, h.2) c)))

  ended_further : (es : Trees) (t k u : List ℕ) (o : Option (List Token)) → (further es ▹ mark 41) t k → Cut k u o
      → Ended t u (option_map (further_spelled es) o)
  ended_further none t k u o h c = ended_blanks t h.0 u _ h.1 (close_paren_ended h.0 k u o h.2 c)
  ended_further (more e es) t k u o h c =
      let a = h.1 in
      ended_along t u _ _
      (joined (λ ts. comma ∷ ts) (λ ts. spelled e (further_spelled es ts)) (further_spelled (more e es))
      (λ ts. refl) o)
      (ended_blanks t a.0 u _ a.1
      (comma_ended a.0 a.2.0 u _ a.2.1
      (along a.2.0 u _ _ (joined (spelled e) (further_spelled es) (λ ts. spelled e (further_spelled es ts))
      (λ ts. refl) o)
      (cut_blanks a.2.0 a.2.2.0 u _ a.2.2.1
      (cut_expression e a.2.2.0 a.2.2.2.0 u _ a.2.2.2.1
      (ended_further es a.2.2.2.0 k u o (h.0, a.2.2.2.2, h.2) c))))))
