-- Keys lead to the lines of their cells.
use Rattle.std.proofs.Common.{◌≡◌, ◌⊎◌, inl, inr, ℕ, zero, suc, ◌+◌, ◌<◌, Bool, true, false, List, [], ◌∷◌, ◌++◌}
use Rattle.std.proofs.Common.{length, get_or, set, Option, Some, None, refl, sym, ap, ◌∙◌, arith, bytes_eq}
use Rattle.std.proofs.Common.{length-append}
use Rattle.std.proofs.lemmas.List.{length-set, get_or-set_same, get_or-set_other}
use Rattle.std.proofs.Math.ListN.{get_or-append}
use Rattle.std.proofs.lemmas.Map.Text.{is_eq-slice_cmp}
use Rattle.std.proofs.lemmas.Slice.Eq.{bytes_eq-Decides}
use Rattle.std.specs.Prelude.{cond}
use Rattle.std.specs.declared.vec.Vec.{Vec}
use Rattle.std.specs.declared.alloc.Global.{Global}
use Rattle.std.specs.BTreeMap.{get, is_at, Updates}
use Rattle.std.specs.Map.{lookup}
use Rattle.std.proofs.lemmas.Bool.{cases_eq, cases_lt}
use Rattle.plan_filling.specs.Cells.{step, Position, Cell, parameter, variable, offered, output, count, included, name, deployments, state}
use Rattle.plan_filling.specs.Desired.{is_state}
use Rattle.plan_table.specs.declared.line.Line.{Line}
use Rattle.plan_table.specs.declared.line.Spot.{Spot}
use Rattle.plan_table.specs.declared.line.Spot.TheVariants.{Parameter, Variable, Offered, Output, Count, Included}
use Rattle.plan_table.specs.declared.line.Spot.TheVariants.{Name, Deployments}
use Rattle.plan_table.specs.Opened.{Opened, opened_at}
use Rattle.plan_table.specs.Lines.{frame_of, cell_in, cell_of, line_at, new_line}
use Rattle.plan_table.specs.Keys.{shape, key_of, key_cmp, Index, at_key, IsIndexed, Indexes}

-- ---- cells by their shapes

abbrev pub position_in : Cell → Position
position_in (parameter p x) = p
position_in (variable p x) = p
position_in (offered p x) = p
position_in (output p x) = p
position_in (count p r) = p
position_in (included p s) = p
position_in (name p s) = p
position_in (deployments p) = p
position_in (state k) = []

abbrev numbered : ℕ → Position → List ℕ → Cell
numbered zero p x = parameter p x
numbered (suc zero) p x = variable p x
numbered (suc (suc zero)) p x = offered p x
numbered (suc (suc (suc zero))) p x = output p x
numbered (suc (suc (suc (suc zero)))) p (r ∷ x) = count p r
numbered (suc (suc (suc (suc (suc zero))))) p (r ∷ i ∷ x) = included p (step r i)
numbered (suc (suc (suc (suc (suc (suc zero)))))) p (r ∷ i ∷ x) = name p (step r i)
numbered _ p x = deployments p

abbrev rebuilt : Position → List ℕ → Cell
rebuilt p [] = deployments p
rebuilt p (n ∷ x) = numbered n p x

cell_rebuilt : (c : Cell) → is_state c ≡ false → rebuilt (position_in c) (shape c) ≡ c
cell_rebuilt (parameter p x) h = refl
cell_rebuilt (variable p x) h = refl
cell_rebuilt (offered p x) h = refl
cell_rebuilt (output p x) h = refl
cell_rebuilt (count p r) h = refl
cell_rebuilt (included p s) h = refl
cell_rebuilt (name p s) h = refl
cell_rebuilt (deployments p) h = refl
cell_rebuilt (state k) h = let no : true ≡ false = h in cc

-- cells of one scope that have one shape are one
pub one_shape : (c d : Cell) → is_state c ≡ false → is_state d ≡ false → position_in c ≡ position_in d
    → shape c ≡ shape d → c ≡ d
one_shape c d a b e f =
    sym (cell_rebuilt c a) ∙ ap (λ p. rebuilt p (shape c)) e ∙ ap (rebuilt (position_in d)) f ∙ cell_rebuilt d b

pub in_scope : (o : Opened) (s : Spot) → position_in (cell_in o s) ≡ o.position
in_scope o (Parameter f n) = refl
in_scope o (Variable f n) = refl
in_scope o (Offered f n) = refl
in_scope o (Output f n) = refl
in_scope o (Count f r) = refl
in_scope o (Included f r i) = refl
in_scope o (Name f r i) = refl
in_scope o (Deployments f) = refl

pub no_state : (o : Opened) (s : Spot) → is_state (cell_in o s) ≡ false
no_state o (Parameter f n) = refl
no_state o (Variable f n) = refl
no_state o (Offered f n) = refl
no_state o (Output f n) = refl
no_state o (Count f r) = refl
no_state o (Included f r i) = refl
no_state o (Name f r i) = refl
no_state o (Deployments f) = refl

abbrev first_of : List ℕ → ℕ
first_of [] = 0
first_of (n ∷ x) = n

abbrev rest_of : List ℕ → List ℕ
rest_of [] = []
rest_of (n ∷ x) = x

pub one_frame : (os : List Opened) (s : Spot) (f : ℕ) (x : List ℕ) → key_of os s ≡ f ∷ x → frame_of s ≡ f
one_frame os s f x e = ap first_of e

-- the cell of a spot that has the key of a cell of the scope
pub cell_by_key : (os : List Opened) (s : Spot) (f : ℕ) (c : Cell) → is_state c ≡ false
    → position_in c ≡ (opened_at os f).position → key_of os s ≡ f ∷ shape c → cell_of os s ≡ c
cell_by_key os s f c a e k =
    one_shape (cell_of os s) c (no_state (opened_at os (frame_of s)) s) a
    (in_scope (opened_at os (frame_of s)) s
    ∙ ap (λ g. (opened_at os g).position) (one_frame os s f (shape c) k) ∙ sym e)
    (ap rest_of k)

-- ---- lines

-- an element after a first list
pub get_after : {A : Type 0} (xs ys : List A) (j : ℕ) (d : A) → get_or (xs ++ ys) (length xs + j) d ≡ get_or ys j d
get_after [] ys j d = ap (λ (k : ℕ). get_or ys k d) (omega arith)
get_after (x ∷ xs) ys j d =
    ap (λ (k : ℕ). get_or (x ∷ (xs ++ ys)) k d)
    (let e : suc (length xs) + j ≡ suc (length xs + j) = omega arith in e)
    ∙ get_after xs ys j d

pub line_last : (ls : List Line) (l : Line) → line_at (ls ++ l ∷ []) (length ls) ≡ l
line_last ls l =
    ap (line_at (ls ++ l ∷ [])) (let e : length ls ≡ length ls + 0 = omega arith in e)
    ∙ get_after ls (l ∷ []) 0 (new_line (Deployments 0))

pub line_before : (ls ms : List Line) (j : ℕ) → j < length ls → line_at (ls ++ ms) j ≡ line_at ls j
line_before ls ms j h = get_or-append ls ms (new_line (Deployments 0)) j h

-- a line of the same cell
pub spot_set : (ls : List Line) (at : ℕ) (l : Line) → at < length ls → l.spot ≡ (line_at ls at).spot → (j : ℕ)
    → (line_at (set ls at l) j).spot ≡ (line_at ls j).spot
spot_set ls at l h e j =
    elim (cases_eq j at) [
      | inl q ↦ ap (λ k. (line_at (set ls at l) k).spot) q
          ∙ ap (λ x. x.spot) (get_or-set_same ls at l (new_line (Deployments 0)) h) ∙ e
          ∙ ap (λ k. (line_at ls k).spot) (sym q)
      | inr n ↦ ap (λ x. x.spot) (get_or-set_other ls at j l (new_line (Deployments 0)) n)
    ]

-- ---- the index

pub indexed_set : (os : List Opened) (ix : Index) (ls : List Line) (at : ℕ) (l : Line) → at < length ls
    → l.spot ≡ (line_at ls at).spot → Indexes os ix ls → Indexes os ix (set ls at l)
indexed_set os ix ls at l h e x = record {
  sound = λ s j k. let r = x.sound s j k in
      (let n = length-set ls at l in omega (arith, n, r.0), ap (key_of os) (spot_set ls at l h e j) ∙ r.1);
  complete = λ s j k q. x.complete s j (let n = length-set ls at l in omega (arith, n, k))
      (q ∙ ap (key_of os) (spot_set ls at l h e j));
}

found_by : (b : Bool) (j i : ℕ) (o : Option ℕ) → cond b (Some j) o ≡ Some i → (b ≡ true → i ≡ j)
found_by true j i o e q = cc
found_by false j i o e q = let no : false ≡ true = q in cc

by_test : (b : Bool) → (b ≡ true) ⊎ (b ≡ false)
by_test true = inl refl
by_test false = inr refl

cond_yes : (b : Bool) (x y : Option ℕ) → b ≡ true → cond b x y ≡ x
cond_yes b x y e = rw e refl

cond_no : (b : Bool) (x y : Option ℕ) → b ≡ false → cond b x y ≡ y
cond_no b x y e = rw e refl

module _ (os : List Opened) (ix jx : Index) (ls : List Line) (s : Spot) (key : Vec ℕ Global) (x : Indexes os ix ls)
    (is : key.items ≡ key_of os s) (u : Updates key_cmp ix jx key (Some (length ls))) where
  abbrev after : List Line
  after = ls ++ new_line s ∷ []

  length_after : length after ≡ suc (length ls)
  length_after = length-append ls (new_line s ∷ []) ∙ (let e : length ls + 1 ≡ suc (length ls) = omega arith in e)

  now : (q : Vec ℕ Global) → get key_cmp jx q ≡ cond (bytes_eq key.items q.items) (Some (length ls)) (get key_cmp ix q)
  now q = u.0 q ∙ ap (λ b. cond b (Some (length ls)) (get key_cmp ix q)) (is_eq-slice_cmp key.items q.items)

  sound_new : (q : Vec ℕ Global) (j : ℕ) → at_key jx q j → bytes_eq key.items q.items ≡ true
      → (j < length after) × (key_of os (line_at after j).spot ≡ q.items)
  sound_new q j k e =
      let at : j ≡ length ls = found_by (bytes_eq key.items q.items) (length ls) j (get key_cmp ix q) (sym (now q)
      ∙ k) e in (
        omega (arith, at, length_after),
        ap (λ i. key_of os (line_at after i).spot) at ∙ ap (λ l. key_of os l.spot) (line_last ls (new_line s)) ∙ sym is
            ∙ (bytes_eq-Decides key.items q.items).0 e,
      )

  sound_old : (q : Vec ℕ Global) (j : ℕ) → at_key jx q j → bytes_eq key.items q.items ≡ false
      → (j < length after) × (key_of os (line_at after j).spot ≡ q.items)
  sound_old q j k e =
      let r = x.sound q j (sym (now q ∙ cond_no (bytes_eq key.items q.items) (Some (length ls)) (get key_cmp ix q) e)
      ∙ k) in
      (omega (arith, r.0, length_after), ap (λ l. key_of os l.spot) (line_before ls (new_line s ∷ []) j r.0) ∙ r.1)

  still : (q : Vec ℕ Global) (i : ℕ) → at_key ix q i → IsIndexed jx q
  still q i k =
      elim (by_test (bytes_eq key.items q.items)) [
        | inl e ↦ record {
          line = length ls;
          is = now q ∙ cond_yes (bytes_eq key.items q.items) (Some (length ls)) (get key_cmp ix q) e;
        }
        | inr e ↦ record {
          line = i;
          is = now q ∙ cond_no (bytes_eq key.items q.items) (Some (length ls)) (get key_cmp ix q) e ∙ k;
        }
      ]

  complete_new : (q : Vec ℕ Global) → q.items ≡ key_of os s → IsIndexed jx q
  complete_new q e = record {
    line = length ls;
    is = now q ∙ cond_yes (bytes_eq key.items q.items) (Some (length ls)) (get key_cmp ix q)
        ((bytes_eq-Decides key.items q.items).1 (is ∙ sym e));
  }

  complete_after : (q : Vec ℕ Global) (j : ℕ) → j < length after → q.items ≡ key_of os (line_at after j).spot
      → IsIndexed jx q
  complete_after q j h e =
      elim (cases_lt j (length ls)) [
        | inl l ↦ (let r = x.complete q j l (e ∙ ap (λ y. key_of os y.spot) (line_before ls (new_line s ∷ []) j l)) in
            still q r.line r.is)
        | inr l ↦ (let at : j ≡ length ls = omega (arith, l, h, length_after) in
            complete_new q (e ∙ ap (λ i. key_of os (line_at after i).spot) at
            ∙ ap (λ y. key_of os y.spot) (line_last ls (new_line s))))
      ]

  -- one more line
  pub indexed_more : Indexes os jx after
  indexed_more = record {
    sound = λ q j k. elim (by_test (bytes_eq key.items q.items)) [
      | inl e ↦ sound_new q j k e
      | inr e ↦ sound_old q j k e
    ];
    complete = complete_after;
  }

-- no line
pub indexed_none : (os : List Opened) (ix : Index) → ix.entries ≡ [] → Indexes os ix []
indexed_none os ix e = record {
  sound = λ s j k. let none : get key_cmp ix s ≡ None =
      ap (lookup (is_at (key_cmp s))) e in absurd (let no : None ≡ Some j = sym none ∙ k in cc);
  complete = λ s j h. absurd (omega (arith, h));
}
