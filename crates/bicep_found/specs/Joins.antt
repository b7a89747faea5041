-- Answers that are made of others.
use Rattle.std.specs.Prelude.{◌≡◌, ◌⊎◌, List, [], ◌∷◌, ◌++◌, Option, Result, Ok, Err, option_to_list}
use Rattle.std.specs.declared.boxed.Box.{Box}
use Rattle.std.specs.declared.alloc.Global.{Global}
use Rattle.bicep_found.specs.declared.stop.Stop.{Stop}
use Rattle.bicep_found.specs.declared.stop.Stop.TheVariants as stop

-- the value, in a box
abbrev pub Boxes : {A : Type 0} → Result A Stop → Result (Box A Global) Stop → Type 0
Boxes a (Ok p) = a ≡ Ok p.value
Boxes a (Err (stop.Unknown at)) = a ≡ Err (stop.Unknown at)
Boxes a (Err stop.OutOfMemory) = Unit {0}

-- the first is not there for this, or the first is there and the second is not there for this
abbrev pub FirstUnknown : {A B : Type 0} → Result A Stop → Result B Stop → Stop → Type 0
FirstUnknown {A} a b stop = (a ≡ Err stop) ⊎ ((x : A) × (a ≡ Ok x) × (b ≡ Err stop))

-- the values of both in boxes, or the first `Unknown`
abbrev pub Joins : {A B : Type 0} → Result A Stop → Result B Stop → Result (Box A Global × Box B Global) Stop → Type 0
Joins a b (Ok p) = (a ≡ Ok p.0.value) × (b ≡ Ok p.1.value)
Joins a b (Err (stop.Unknown at)) = FirstUnknown a b (stop.Unknown at)
Joins a b (Err stop.OutOfMemory) = Unit {0}

-- the values of both, or why there is none: of the first before the second
abbrev pub Pairs : {A B : Type 0} → Result A Stop → Result B Stop → Result (A × B) Stop → Type 0
Pairs a b (Ok p) = (a ≡ Ok p.0) × (b ≡ Ok p.1)
Pairs a b (Err why) = FirstUnknown a b why

-- the values of three in boxes, or the first `Unknown`
abbrev pub Joins3 : {A : Type 0} → Result A Stop → Result A Stop → Result A Stop
    → Result (Box A Global × Box A Global × Box A Global) Stop → Type 0
Joins3 a b c (Ok p) = (a ≡ Ok p.0.value) × (b ≡ Ok p.1.value) × (c ≡ Ok p.2.value)
Joins3 {A} a b c (Err (stop.Unknown at)) =
    (a ≡ Err (stop.Unknown at)) ⊎ (((x : A) × (a ≡ Ok x) × (b ≡ Err (stop.Unknown at)))
    ⊎ ((x : A) × (y : A) × (a ≡ Ok x) × (b ≡ Ok y) × (c ≡ Err (stop.Unknown at))))
Joins3 a b c (Err stop.OutOfMemory) = Unit {0}

-- the value goes last
abbrev pub Pushes : {A : Type 0} → List A → Result A Stop → List A → Result (Unit {0}) Stop → Type 0
Pushes {A} old a new (Ok u) = (x : A) × (a ≡ Ok x) × (new ≡ old ++ x ∷ [])
Pushes old a new (Err (stop.Unknown at)) = a ≡ Err (stop.Unknown at)
Pushes old a new (Err stop.OutOfMemory) = Unit {0}

-- the value goes last, where there is one
abbrev pub PushesSome : {A : Type 0} → List A → Result (Option A) Stop → List A → Result (Unit {0}) Stop → Type 0
PushesSome {A} old a new (Ok u) = (o : Option A) × (a ≡ Ok o) × (new ≡ old ++ option_to_list o)
PushesSome old a new (Err (stop.Unknown at)) = a ≡ Err (stop.Unknown at)
PushesSome old a new (Err stop.OutOfMemory) = Unit {0}
