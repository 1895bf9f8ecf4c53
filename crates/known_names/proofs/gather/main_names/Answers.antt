use Rattle.known_names.proofs.gather.main_names.Goals as goal

pub returns : goal.returns
returns c = rw (← c.len.ensures) c.local_at.ensures
