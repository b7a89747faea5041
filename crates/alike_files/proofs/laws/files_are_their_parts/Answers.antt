use Rattle.alike_files.proofs.laws.files_are_their_parts.Goals as goal

pub returns : goal.returns
returns c = λ f fs z u h p m.
    record {
      form = h.form;
      parameters = p;
      variables = h.variables;
      outputs = h.outputs;
      resources = h.resources;
      dependents = h.dependents;
      none_exist = h.none_exist;
      modules = m;
    }
