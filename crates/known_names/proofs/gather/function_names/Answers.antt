use Rattle.known_names.proofs.gather.function_names.Goals as goal

pub returns : goal.returns
returns c = rw (← c.in_ok-declared.ensures) c.local_at.ensures
