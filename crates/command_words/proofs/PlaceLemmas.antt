-- Values by their places.
use Rattle.std.proofs.Common.{◌≡◌, ◌==◌, ℕ, true, false, List, Option, Some, None, refl, ap, ◌∙◌}
use Rattle.command_words.specs.Reading.{Values, held, with, put, nothing}
use Rattle.command_words.specs.Given.{number}
use Rattle.command_words.specs.declared.given.Place.{Place}
use Rattle.command_words.specs.declared.given.Place.TheVariants.{File, Group, Name, Mode, Parameters, Subscription}
use Rattle.command_words.specs.declared.given.Place.TheVariants.{Language}

pub same_place : (p q : Place) → (number p == number q) ≡ true → p ≡ q
same_place File File e = refl
same_place File Group e = absurd cc
same_place File Name e = absurd cc
same_place File Mode e = absurd cc
same_place File Parameters e = absurd cc
same_place File Subscription e = absurd cc
same_place File Language e = absurd cc
same_place Group File e = absurd cc
same_place Group Group e = refl
same_place Group Name e = absurd cc
same_place Group Mode e = absurd cc
same_place Group Parameters e = absurd cc
same_place Group Subscription e = absurd cc
same_place Group Language e = absurd cc
same_place Name File e = absurd cc
same_place Name Group e = absurd cc
same_place Name Name e = refl
same_place Name Mode e = absurd cc
same_place Name Parameters e = absurd cc
same_place Name Subscription e = absurd cc
same_place Name Language e = absurd cc
same_place Mode File e = absurd cc
same_place Mode Group e = absurd cc
same_place Mode Name e = absurd cc
same_place Mode Mode e = refl
same_place Mode Parameters e = absurd cc
same_place Mode Subscription e = absurd cc
same_place Mode Language e = absurd cc
same_place Parameters File e = absurd cc
same_place Parameters Group e = absurd cc
same_place Parameters Name e = absurd cc
same_place Parameters Mode e = absurd cc
same_place Parameters Parameters e = refl
same_place Parameters Subscription e = absurd cc
same_place Parameters Language e = absurd cc
same_place Subscription File e = absurd cc
same_place Subscription Group e = absurd cc
same_place Subscription Name e = absurd cc
same_place Subscription Mode e = absurd cc
same_place Subscription Parameters e = absurd cc
same_place Subscription Subscription e = refl
same_place Subscription Language e = absurd cc
same_place Language File e = absurd cc
same_place Language Group e = absurd cc
same_place Language Name e = absurd cc
same_place Language Mode e = absurd cc
same_place Language Parameters e = absurd cc
same_place Language Subscription e = absurd cc
same_place Language Language e = refl

pub there : (g : Values) (p : Place) (v : List ℕ) → held (with g p v) p ≡ Some v
there g File v = refl
there g Group v = refl
there g Name v = refl
there g Mode v = refl
there g Parameters v = refl
there g Subscription v = refl
there g Language v = refl

pub other : (g : Values) (p q : Place) (v : List ℕ) → (number p == number q) ≡ false
    → held (with g p v) q ≡ held g q
other g File File v e = absurd cc
other g File Group v e = refl
other g File Name v e = refl
other g File Mode v e = refl
other g File Parameters v e = refl
other g File Subscription v e = refl
other g File Language v e = refl
other g Group File v e = refl
other g Group Group v e = absurd cc
other g Group Name v e = refl
other g Group Mode v e = refl
other g Group Parameters v e = refl
other g Group Subscription v e = refl
other g Group Language v e = refl
other g Name File v e = refl
other g Name Group v e = refl
other g Name Name v e = absurd cc
other g Name Mode v e = refl
other g Name Parameters v e = refl
other g Name Subscription v e = refl
other g Name Language v e = refl
other g Mode File v e = refl
other g Mode Group v e = refl
other g Mode Name v e = refl
other g Mode Mode v e = absurd cc
other g Mode Parameters v e = refl
other g Mode Subscription v e = refl
other g Mode Language v e = refl
other g Parameters File v e = refl
other g Parameters Group v e = refl
other g Parameters Name v e = refl
other g Parameters Mode v e = refl
other g Parameters Parameters v e = absurd cc
other g Parameters Subscription v e = refl
other g Parameters Language v e = refl
other g Subscription File v e = refl
other g Subscription Group v e = refl
other g Subscription Name v e = refl
other g Subscription Mode v e = refl
other g Subscription Parameters v e = refl
other g Subscription Subscription v e = absurd cc
other g Subscription Language v e = refl
other g Language File v e = refl
other g Language Group v e = refl
other g Language Name v e = refl
other g Language Mode v e = refl
other g Language Parameters v e = refl
other g Language Subscription v e = refl
other g Language Language v e = absurd cc

pub same_number : (p : Place) → (number p == number p) ≡ true
same_number File = refl
same_number Group = refl
same_number Name = refl
same_number Mode = refl
same_number Parameters = refl
same_number Subscription = refl
same_number Language = refl

pub none_at_first : (p : Place) → held nothing p ≡ None
none_at_first File = refl
none_at_first Group = refl
none_at_first Name = refl
none_at_first Mode = refl
none_at_first Parameters = refl
none_at_first Subscription = refl
none_at_first Language = refl

pub put_free : (g : Values) (p : Place) (v : List ℕ) → held g p ≡ None → put g p v ≡ Some (with g p v)
put_free g p v h = rw h refl

made : (a b c d e f h : Option (List ℕ)) → Values
made a b c d e f h = record {
  file = a;
  group = b;
  name = c;
  mode = d;
  parameters = e;
  subscription = f;
  language = h;
}

pub values_same : (g h : Values) → ((p : Place) → held g p ≡ held h p) → g ≡ h
unfolding made
values_same g h e =
    ap (λ x. made x g.group g.name g.mode g.parameters g.subscription g.language) (e File)
    ∙ (ap (λ x. made h.file x g.name g.mode g.parameters g.subscription g.language) (e Group)
    ∙ (ap (λ x. made h.file h.group x g.mode g.parameters g.subscription g.language) (e Name)
    ∙ (ap (λ x. made h.file h.group h.name x g.parameters g.subscription g.language) (e Mode)
    ∙ (ap (λ x. made h.file h.group h.name h.mode x g.subscription g.language) (e Parameters)
    ∙ (ap (λ x. made h.file h.group h.name h.mode h.parameters x g.language) (e Subscription)
    ∙ ap (λ x. made h.file h.group h.name h.mode h.parameters h.subscription x) (e Language))))))
