use Rattle.std.proofs.Common.{◌∙◌}
use Rattle.icu_tables.proofs.Members.{list_any-seen}
use Rattle.icu_tables.proofs.from_json.objects.is_known.Goals as goal

-- the names are compared behind their references
pub returns : goal.returns
returns c = c.contains.ensures.value ∙ list_any-seen c.args.name.now c.args.names.now
