-- The templates of modules, by the numbers of their symbols.
use Rattle.std.proofs.Common.{◌≡◌, ◌<◌, ◌≤◌, ◌+◌, inl, inr, ℕ, zero, suc, List, [], ◌∷◌, ◌++◌, length, get_or, drop}
use Rattle.std.proofs.Common.{take, take-append-drop, ◌∙◌, arith}
use Rattle.std.proofs.Math.Seq.{take-add}
use Rattle.std.proofs.Common.{Option, Some, None, Result, Ok, Err, map, refl, sym, ap, append_assoc, append-nil, subst}
use Rattle.std.proofs.lemmas.List.{drop_all}
use Rattle.std.specs.Prelude.{is_some, option_and_then, option_map, slice_get, IfOk, IfErr}
use Rattle.std.specs.declared.alloc.AllocError.{AllocError}
use Rattle.std.specs.declared.alloc.Global.{Global}
use Rattle.std.specs.declared.vec.Vec.{Vec}
use Rattle.foundation.proofs.Lists.{next_item}
use Rattle.template_lengths.specs.Lengths.{IsAdded, OptionKeeps, option_bytes, total_bytes}
use Rattle.template_tree.specs.Tree.{TemplateTree}
use Rattle.template_tree.specs.View.{template_tree}
use Rattle.template_tree.specs.declared.resource.Template.{Template}
use Rattle.template_written.specs.Keeps.{Keeps}
use Rattle.bicep_names.specs.declared.kind.Kind.{Kind}
use Rattle.bicep_symbols.specs.Entries.{symbol_of}
use Rattle.bicep_symbols.specs.declared.entry.Entry.{Entry}
use Rattle.bicep_declared.specs.Declarations.{DeclaredTree}
use Rattle.bicep_declared.specs.Declarations as d
use Rattle.bicep_meaning.specs.Instances.{module_of}
use Rattle.program_parts.specs.Built.{templates_of, template_of}
use Rattle.program_parts.specs.Fits.{HasTemplate}
use Rattle.program_parts.specs.Modules.{is_module_by}
use Rattle.program_parts.specs.EmitFault.{EmitFault}
use Rattle.program_parts.specs.Faults.{IsMemoryFault}
use Rattle.program_parts.specs.FileParts.{FileParts}
use Rattle.bicep_emit.specs.Inner.{HasLast, HasLastItem, HasModule, HasOneMore, IsLeast, IsModuleFault, IsModulesFault}
use Rattle.bicep_emit.specs.Inner.{IsInnerOf, IsOneTooMany, IsTooMany}
use Rattle.bicep_emit.specs.Modules.{AreGiven, AreOfProgram, IsGiven, IsModuleFor, IsWholeOf, OfEach}
use Rattle.bicep_emit.specs.declared.programs.Inner.{Inner}

module _ (W : ℕ → TemplateTree → Type 0) where
  -- the templates so far, and those of what is left, are those of all
  pub record Goes (es : List Entry) (i : ℕ) (done : List (Option Template)) : Type 0 where
    pub rest : (us : List (Option Template)) → AreGiven W (drop i es) us → AreGiven W es (done ++ us)
    pub first : AreGiven W (take i es) done

  pub begins : (es : List Entry) → Goes es 0 []
  begins es = record { rest = λ us h. h; first = tt }

  one_more : (es : List Entry) (us : List (Option Template)) (e : Entry) (u : Option Template) → AreGiven W es us
      → IsGiven W (module_of e.kind) (option_map template_tree u) → AreGiven W (es ++ e ∷ []) (us ++ u ∷ [])
  one_more [] [] e u h g = (g, tt)
  one_more [] (v ∷ us) e u h g = absurd h
  one_more (x ∷ es) [] e u h g = absurd h
  one_more (x ∷ es) (v ∷ us) e u h g = (h.0, one_more es us e u h.1 g)

  pub first_more : (es : List Entry) (i : ℕ) (done : List (Option Template)) (e : Entry) (u : Option Template)
      → i < length es → e ≡ get_or es i e → IsGiven W (module_of e.kind) (option_map template_tree u) → Goes es i done
      → AreGiven W (take (i + 1) es) (done ++ u ∷ [])
  first_more es i done e u l is h g =
      subst (λ (xs : List Entry). AreGiven W xs (done ++ u ∷ []))
      (sym (take-add i 1 es ∙ ap (λ (xs : List Entry). take i es ++ take 1 xs) (next_item es i e l is)))
      (one_more (take i es) done e u g.first h)

  pub goes_on : (es : List Entry) (i : ℕ) (done more : List (Option Template)) (e : Entry) (u : Option Template)
      → i < length es → e ≡ get_or es i e → IsGiven W (module_of e.kind) (option_map template_tree u)
      → more ≡ done ++ u ∷ [] → Goes es i done → Goes es (i + 1) more
  goes_on es i done more e u l is h n g = record {
    rest =
        λ us k. subst (λ (xs : List (Option Template)). AreGiven W es (xs ++ us)) (sym n)
        (subst (AreGiven W es) (sym (append_assoc done (u ∷ []) us))
        (g.rest (u ∷ us)
        (subst (λ (xs : List Entry). AreGiven W xs (u ∷ us)) (sym (next_item es i e l is)) (h, k))));
    first = subst (AreGiven W (take (i + 1) es)) (sym n) (first_more es i done e u l is h g);
  }

  -- what is given keeps the rules
  pub given_keeps : ((k : ℕ) (t : TemplateTree) → W k t → Keeps t) → (o : Option ℕ) (u : Option Template)
      → IsGiven W o (option_map template_tree u) → OptionKeeps u
  given_keeps keeps o None h = tt
  given_keeps keeps None (Some t) h = absurd (let no : Some (template_tree t) ≡ None = h in cc)
  given_keeps keeps (Some j) (Some t) h = keeps j (template_tree t) h

  pub ends : (es : List Entry) (i : ℕ) (done : List (Option Template)) → length es ≤ i → Goes es i done
      → AreGiven W es done
  ends es i done l g =
      subst (AreGiven W es) (append-nil done)
      (g.rest [] (subst (λ (xs : List Entry). AreGiven W xs []) (sym (drop_all i es l)) tt))

  -- by numbers
  pub given_at : (es : List Entry) (us : List (Option Template)) → AreGiven W es us → (n : ℕ)
      → IsGiven W (option_and_then module_of (option_map (λ x. x.2) (slice_get (map symbol_of es) n)))
      (template_of (templates_of us) n)
  given_at [] [] h zero = refl
  given_at [] [] h (suc n) = refl
  given_at [] (u ∷ us) h n = absurd h
  given_at (e ∷ es) [] h n = absurd h
  given_at (e ∷ es) (u ∷ us) h zero = h.0
  given_at (e ∷ es) (u ∷ us) h (suc n) = given_at es us h.1 n

  pub given_size : (es : List Entry) (us : List (Option Template)) → AreGiven W es us → length us ≡ length es
  given_size [] [] h = refl
  given_size [] (u ∷ us) h = absurd h
  given_size (e ∷ es) [] h = absurd h
  given_size (e ∷ es) (u ∷ us) h = ap suc (given_size es us h.1)

  -- a module has a template
  pub has_template : (o : Option DeclaredTree) (j : Option ℕ) (q : Option TemplateTree)
      → is_some j ≡ is_module_by o → IsGiven W j q → HasTemplate o (is_some q)
  has_template None j q e h = tt
  has_template (Some (d.parameter at t)) j q e h = tt
  has_template (Some (d.parameter_with at t x)) j q e h = tt
  has_template (Some (d.variable at v)) j q e h = tt
  has_template (Some (d.a_resource at q existing b)) j o e h = tt
  has_template (Some (d.a_module at b)) None q e h = absurd cc
  has_template (Some (d.a_module at b)) (Some j) None e h = absurd h
  has_template (Some (d.a_module at b)) (Some j) (Some u) e h = refl

-- ---- one more

pub module_keeps : (ps : List FileParts) (kind : Kind) (u : Option Template) → AreOfProgram ps → IsModuleFor ps kind u
    → OptionKeeps u
module_keeps ps kind u known h =
    given_keeps (IsWholeOf known.0 known.1.0 known.1.1.0) (λ k t w. w.keeps) (module_of kind) u
    (h known.0 known.1.0 known.1.1.0 known.1.1.1.0 known.1.1.1.1)

pub with_module : (ps : List FileParts) (kind : Kind) (old : Inner) (u : Option Template) → IsModuleFor ps kind u
    → (v : Inner) → HasOneMore old u v → HasModule ps kind old v
with_module ps kind old u h v e = (u, (h, e))

pub module_fault : (ps : List FileParts) (kind : Kind) (old : Inner) (u : Option Template) → IsModuleFor ps kind u
    → (x : EmitFault) → IsOneTooMany old u x → IsModuleFault ps kind old x
module_fault ps kind old u h x (inl m) = inl (inl m)
module_fault ps kind old u h x (inr l) = inr (u, (h, l))

-- a fault of one module is one of those of the file
pub modules_fault : (ps : List FileParts) (es : List Entry) (i : ℕ) (old : Inner) (e : Entry) → i < length es
    → e ≡ get_or es i e
    → OfEach ps (λ z ss rs. Goes (IsWholeOf z ss rs) es i old.templates.items) → (x : EmitFault)
    → IsModuleFault ps e.kind old x → IsModulesFault ps es x
modules_fault ps es i old e l is g x (inl h) = inl h
modules_fault ps es i old e l is g x (inr h) = inr (record {
  first = take (i + 1) es;
  others = drop (i + 1) es;
  all = sym (take-append-drop (i + 1) es);
  templates = old.templates.items ++ h.0 ∷ [];
  are = λ z ss rs read are. first_more (IsWholeOf z ss rs) es i old.templates.items e h.0 l is (h.1.0 z ss rs read are)
      (g z ss rs read are);
  long = h.1.1;
})

-- ---- bytes

total_last : (us : List (Option Template)) (u : Option Template)
    → total_bytes (us ++ u ∷ []) ≡ total_bytes us + option_bytes u
total_last [] u = omega arith
total_last (v ∷ us) u = let h = total_last us u in omega (arith, h)

at_most : (b : ℕ) (u : Option Template) (n : ℕ) → IsAdded b u n → n ≤ b + option_bytes u
at_most b None n a = omega (arith, a)
at_most b (Some t) n a = let l = a.1.0.least in let e = a.1.1 in omega (arith, l, e)

pub still_least : (old : Inner) (u : Option Template) (n : ℕ) → IsLeast old → IsAdded old.bytes u n
    → n ≤ total_bytes (old.templates.items ++ u ∷ [])
still_least old u n h a =
    let t = total_last old.templates.items u in
    let m = at_most old.bytes u n a in
    omega (arith, h, m, t)

pub one_has : (old : Inner) (u : Option Template) (n : ℕ) → IsLeast old → IsAdded old.bytes u n → (v : Inner)
    → HasLast old.templates.items u n v → HasOneMore old u v
one_has old u n h a v l = (
  l.0,
  subst (λ (us : List (Option Template)). v.bytes ≤ total_bytes us) (sym l.0)
      (subst (λ k. k ≤ total_bytes (old.templates.items ++ u ∷ [])) (sym l.1) (still_least old u n h a)),
)

pub one_fault : (old : Inner) (u : Option Template) (n : ℕ) → IsLeast old → IsAdded old.bytes u n → (x : EmitFault)
    → IsTooMany n x → IsOneTooMany old u x
one_fault old u n h a x (inl m) = inl m
one_fault old u n h a x (inr l) = inr (n, (l.0, (l.1, still_least old u n h a)))

-- ---- memory

pub inner_last : (us : List (Option Template)) (u : Option Template) (bytes : ℕ)
    (res : Result (Vec (Option Template) Global) AllocError) (r : Result Inner EmitFault) → IsInnerOf res bytes r
    → IfOk res (HasLastItem us u) → IfOk r (HasLast us u bytes)
inner_last us u bytes (Ok v) r e h = subst (λ q. IfOk q (HasLast us u bytes)) (sym e) (h, refl)
inner_last us u bytes (Err x) r e h = subst (λ q. IfOk q (HasLast us u bytes)) (sym e) tt

pub inner_memory : (bytes : ℕ) (res : Result (Vec (Option Template) Global) AllocError) (r : Result Inner EmitFault)
    → IsInnerOf res bytes r → IfErr r IsMemoryFault
inner_memory bytes (Ok v) r e = subst (λ q. IfErr q IsMemoryFault) (sym e) tt
inner_memory bytes (Err x) r e = subst (λ q. IfErr q IsMemoryFault) (sym e) refl
