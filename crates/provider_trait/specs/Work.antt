-- What a job says.
use Rattle.std.specs.Prelude.{ℕ, List, refl}
use Rattle.std.specs.Coded.{Coded, code_by, coded×, coded_ℕ, coded_list}
use Rattle.arm_value.specs.Json.{Json}
use Rattle.arm_value.specs.JsonCode.{json_code}
use Rattle.provider_trait.specs.Act.{act_code}
use Rattle.provider_trait.specs.FirstPart.{Assignment, first_part}
use Rattle.provider_trait.specs.declared.act.Act.{Act}

-- the task and the worker by their numbers, the act, the resource that it is for, and the first part of the record in
-- the journal
pub record Work : Type 0 where
  pub task : ℕ
  pub worker : ℕ
  pub act : Act
  pub id : List ℕ
  pub api : List ℕ
  pub body : Json
  pub first : List ℕ

-- the work of an act and an assignment
abbrev pub work_for : Act → Assignment → Work
work_for act a =
    record {
      task = a.task;
      worker = a.worker;
      act = act;
      id = a.id;
      api = a.api;
      body = a.body;
      first = first_part a;
    }

-- what work assigns
abbrev pub assignment_of : Work → Assignment
assignment_of w = record { api = w.api; body = w.body; id = w.id; task = w.task; worker = w.worker }

-- work is stored as its parts
abbrev pub work_code : Coded Work
work_code =
    code_by (ℕ × (ℕ × (Act × (List ℕ × (List ℕ × (Json × List ℕ))))))
    (coded× coded_ℕ
    (coded× coded_ℕ
    (coded× act_code
    (coded× (coded_list coded_ℕ) (coded× (coded_list coded_ℕ) (coded× json_code (coded_list coded_ℕ)))))))
    (λ w. (w.task, (w.worker, (w.act, (w.id, (w.api, (w.body, w.first)))))))
    (λ p. record {
      task = p.0;
      worker = p.1.0;
      act = p.1.1.0;
      id = p.1.1.1.0;
      api = p.1.1.1.1.0;
      body =
          p.1.1.1.1.1.0;
      first = p.1.1.1.1.1.1;
    }) (λ _. refl)
