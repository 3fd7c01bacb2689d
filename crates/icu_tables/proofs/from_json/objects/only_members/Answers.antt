use Rattle.std.proofs.Common.{◌≡◌, false, ◌&&◌, List, map, String, Global, string_bytes, unwrap_or, rules, sym, ap, ◌∙◌, refl}
use Rattle.std.specs.List.{list_all}
use Rattle.std.specs.Option.{option_map}
use Rattle.std.specs.Map.{keys_of}
use Rattle.icu_tables.specs.Fields.{is_name_listed, are_listed}
use Rattle.icu_tables.proofs.Members.{are_listed-keys}
use Rattle.icu_tables.proofs.from_json.objects.only_members.Goals as goal

-- a name is not known
pub returns-then-not-is_known : goal.returns-then-not-is_known
returns-then-not-is_known c =
    let names = map (λ name. name.now) c.args.names.now in
    let all_known = λ (keys : List (String Global)). list_all (λ key. is_name_listed names (string_bytes key)) keys in
    let whole : c.into_iter-name-iterator.result ≡ keys_of c.in-Some.members.now.entries = search rules in
    let unknown = ap (is_name_listed names) (sym c.as_str.ensures.value) ∙ sym c.if-not-is_known.ensures in (
      refl,
      ap (λ members. unwrap_or (option_map (are_listed names) members) false) (sym c.in-Some.ensures)
          ∙ are_listed-keys names c.in-Some.members.now.entries
          ∙ ap all_known (sym whole)
          ∙ c.loop-name.invariant
          ∙ ap all_known c.in-Some-name.ensures.steps
          ∙ ap (λ first. first && all_known c.next.new.self) unknown,
    )

-- all are
pub returns : goal.returns
returns c =
    let names = map (λ name. name.now) c.args.names.now in
    let all_known = λ (keys : List (String Global)). list_all (λ key. is_name_listed names (string_bytes key)) keys in
    let whole : c.into_iter-name-iterator.result ≡ keys_of c.in-Some.members.now.entries = search rules in
    ap (λ members. unwrap_or (option_map (are_listed names) members) false) (sym c.in-Some.ensures)
    ∙ are_listed-keys names c.in-Some.members.now.entries
    ∙ ap all_known (sym whole)
    ∙ c.loop-name.invariant
    ∙ ap all_known c.in-None.ensures.steps.0
