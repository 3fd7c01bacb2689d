use Rattle.std.proofs.lemmas.List.Filters.{dedup_is}
use Rattle.icu_tables.proofs.NamedKeys.{key_ties, once_each, once_rises}
use Rattle.icu_tables.proofs.named_keys.named_keys.Goals as goal

-- the keys are sorted, and each is there once
pub returns : goal.returns
returns c =
    let list = c.in_ok-keys.keys.items in
    let sorted = c.sort_unstable.new.self.items in
    let left = dedup_is _ sorted c.dedup.new.self.items c.dedup.ensures.filtered in
    let ties = key_ties c.keys_are_told_apart.ensures.names in
    let each = once_each _ c.equality_is_told.ensures.keys ties list sorted c.dedup.new.self.items left c.sort_unstable.ensures.permutation in
    record {
      rise = once_rises _ c.equality_is_told.ensures.keys ties list sorted c.dedup.new.self.items left c.sort_unstable.ensures.permutation c.sort_unstable.ensures.sorted;
      each = λ key. (
        λ h. (c.in_ok-keys.ensures key).0 ((each key).0 h),
        λ h. (each key).1 ((c.in_ok-keys.ensures key).1 h),
      );
    }
