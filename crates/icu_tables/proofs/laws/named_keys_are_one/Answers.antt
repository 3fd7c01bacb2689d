use Rattle.icu_tables.proofs.NamedKeys.{named_keys_one}
use Rattle.icu_tables.proofs.laws.named_keys_are_one.Goals as goal

pub returns : goal.returns
returns c = named_keys_one
