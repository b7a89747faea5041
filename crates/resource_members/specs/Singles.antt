-- Which members a resource has once does not depend on the case of letters.
use Rattle.std.proofs.Common.{◌≡◌, ◌||◌, ◌&&◌, ℕ, List, ap, ap₂, bytes_eq, codes}
use Rattle.std.specs.List.{list_any}
use Rattle.arm_value.specs.Look.{fold}
use Rattle.arm_ids.specs.Members.{is_declaration_member, declaration_members}
use Rattle.resource_members.specs.declared.setting.Setting.{Setting}
use Rattle.resource_members.specs.Settings.{is_symbolic, is_single}

member_folds : (j k : List ℕ) → fold j ≡ fold k → is_declaration_member j ≡ is_declaration_member k
unfolding is_declaration_member
member_folds j k e = ap (λ f. list_any (λ n. bytes_eq (fold n) f) declaration_members) e

pub single_folds : (s : Setting) (j k : List ℕ) → fold j ≡ fold k → is_single s j ≡ is_single s k
single_folds s j k e =
    ap₂ (λ a b. a || b) (member_folds j k e)
    (ap (λ f. (is_symbolic s.rank && bytes_eq (fold (codes "existing")) f)
    || (s.is_deployment && bytes_eq (fold (codes "properties")) f)) e)
