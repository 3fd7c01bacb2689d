use Rattle.std.proofs.Common.{◌≡◌, map, string_bytes}
use Rattle.std.specs.List.{list_all}
use Rattle.icu_tables.specs.Fields.{is_name_listed}
use Rattle.icu_tables.proofs.from_json.objects.only_members.Given as goal

-- the names so far are known, so what is left decides
abbrev pub invariant-loop-name : goal.invariant-loop-name
invariant-loop-name l =
    let known = map (λ name. name.now) l.names in
    list_all (λ key. is_name_listed known (string_bytes key)) l.initial.name-iterator ≡ list_all
    (λ key. is_name_listed known (string_bytes key)) l.name-iterator
