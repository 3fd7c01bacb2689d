use Rattle.std.proofs.Common.{◌++◌, ◌≤◌, ◌∙◌, ap, arith, length}
use Rattle.std.specs.Map.{keys_of}
use Rattle.std.proofs.lemmas.List.{take_all}
use Rattle.icu_tables.proofs.named_keys.add_keys.Goals as goal

-- all names were walked
pub returns : goal.returns
returns c =
    let past : length c.args.names.now ≤ c.loop-name.name-index = omega arith in
    c.loop-name.invariant ∙ ap (λ names. c.args.keys.now.items ++ keys_of names) (take_all c.loop-name.name-index c.args.names.now past)
