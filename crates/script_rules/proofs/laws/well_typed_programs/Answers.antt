use Rattle.std.proofs.Common.{◌<◌, [], ◌∷◌, refl, arith}
use Rattle.mono_syntax.specs.Ty.{dyn, int}
use Rattle.script_rules.specs.SourceCasts.{as_it_is, of_number, of_name, of_cast, all_none, all_more, assigns, prints, ends, goes_on}
use Rattle.script_rules.specs.Writes.{writes_dyn, writes_int}
use Rattle.script_rules.proofs.laws.well_typed_programs.Goals as goal

pub returns-clause-example : goal.returns-clause-example
returns-clause-example c = record {
  classes = tt;
  functions = tt;
  main = record {
    names = (refl, writes_int, (refl, writes_dyn, tt));
    threads = refl;
    body =
        goes_on (assigns (as_it_is of_number))
        (goes_on
        (assigns
        (as_it_is
        (of_cast (of_name (record { site = _; at = refl; place = refl; kind = refl }))
        (record {
          site = record { site = _; at = refl; place = refl; kind = refl };
          inner_first = λ j d. let none : d.0 < 0 = d.1 in absurd (omega arith);
        })
        (record { type = dyn; written = writes_dyn; target = refl }))))
        (goes_on (prints (omega arith) (all_more (as_it_is (of_name (record { site = _; at = refl; place = refl; kind = refl }))) all_none)) ends));
  };
}

pub returns-clause-example_typed : goal.returns-clause-example_typed
returns-clause-example_typed c = record {
  classes = λ k d e. absurd cc;
  functions = λ k d e. absurd cc;
  main = (
    (int, (omega arith, refl), (int, refl, refl)),
    (
      (
        dyn,
        (
          int,
          (record { site = _; at = refl; of_kind = refl }, refl),
          record { site = _; at = refl; of_kind = refl; source = int; source_at = refl; value = refl; target_at = refl },
        ),
        (dyn, refl, refl),
      ),
      ((dyn ∷ [], (dyn, [], (record { site = _; at = refl; of_kind = refl }, refl), refl, refl)), tt),
    ),
  );
}
