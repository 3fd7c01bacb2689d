-- What is read of a text has each name once.
use Rattle.std.proofs.Common.{◌≡◌, ℕ, List, Option, Some, None, option_map, option_and_then, IfSome, refl, ap, ◌∙◌, subst}
use Rattle.std.specs.declared.cmp.Ordering.{Ordering}
use Rattle.std.specs.declared.cmp.Ordering.TheVariants.{Less, Equal, Greater}
use Rattle.std.specs.Ordering.{match_ordering, ordering_reverse}
use Rattle.json.specs.Json as json
use Rattle.json.specs.Lex.{tokens}
use Rattle.serde_json.specs.Data.{Data, number, array, object, item, Members, no_members, member, put}
use Rattle.serde_json.specs.Read.{of_json, of_items, of_members, number_of, max_depth, read}
use Rattle.icu_locale_core.specs.TextSet.{text_cmp}
use Rattle.icu_locale_core.specs.laws.TextSets.{text_total}
use Rattle.icu_tables.specs.inner.Once.{AllAbove, NamesRise, ItemsRise, MembersRise}

if_map : {A B : Type 0} {P : A → Type 0} (Q : B → Type 0) (f : A → B) (o : Option A) → IfSome o P → ((x : A) → P x → Q (f x)) → IfSome (option_map f o) Q
if_map Q f None h step = tt
if_map Q f (Some x) h step = step x h

if_and_then : {A B : Type 0} {P : A → Type 0} (Q : B → Type 0) (f : A → Option B) (o : Option A) → IfSome o P
    → ((x : A) → P x → IfSome (f x) Q) → IfSome (option_and_then f o) Q
if_and_then Q f None h step = tt
if_and_then Q f (Some x) h step = step x h

always : {A : Type 0} (o : Option A) → IfSome o (λ _. Unit {0})
always None = tt
always (Some x) = tt

-- what is below a name is below those above it
above_below : (j k : List ℕ) (ms : Members) → text_cmp j k ≡ Less → AllAbove k ms → AllAbove j ms
above_below j k no_members less above = tt
above_below j k (member l e ms) less above = (text_total.trans j k l less above.0, above_below j k ms less above.1)

above_put : (j k : List ℕ) (d : Data) (ms : Members) → text_cmp j k ≡ Less → AllAbove j ms → AllAbove j (put k d ms)
above_put j k d no_members less above = (less, tt)
above_put j k d (member l e ms) less above = by (text_cmp k l) (above_put j k d ms less above.1)
  where
    by : (o : Ordering) → AllAbove j (put k d ms) → AllAbove j (match_ordering o (member k d (member l e ms)) (member l d ms) (member l e (put k d ms)))
    by Less later = (less, above)
    by Equal later = above
    by Greater later = (above.0, later)

rise_put : (k : List ℕ) (d : Data) (ms : Members) → NamesRise d → MembersRise ms → MembersRise (put k d ms)
rise_put k d no_members value rise = (tt, value, tt)
rise_put k d (member l e ms) value rise = by (text_cmp k l) refl (rise_put k d ms value rise.2)
  where
    by : (o : Ordering) → text_cmp k l ≡ o → MembersRise (put k d ms) → MembersRise
        (match_ordering o (member k d (member l e ms)) (member l d ms) (member l e (put k d ms)))
    by Less is later = ((is, above_below k l ms is rise.0), value, rise)
    by Equal is later = (rise.0, value, rise.2)
    by Greater is later = (above_put l k d ms (text_total.antisymm l k ∙ ap ordering_reverse is) rise.0, rise.1, later)

mutual
  pub rise-of_json : (j : json.Json) → IfSome (of_json j) NamesRise
  rise-of_json json.null = tt
  rise-of_json (json.boolean b) = tt
  rise-of_json (json.number s) = if_map NamesRise number (number_of s) (always (number_of s)) (λ x _. tt)
  rise-of_json (json.string s) = tt
  rise-of_json (json.array js) = if_map NamesRise array (of_items js) (rise-of_items js) (λ x rise. rise)
  rise-of_json (json.object ms) = if_map NamesRise object (of_members ms no_members) (rise-of_members ms no_members tt) (λ x rise. rise)

  rise-of_items : (js : json.Items) → IfSome (of_items js) ItemsRise
  rise-of_items json.no_items = tt
  rise-of_items (json.item j js) =
      if_and_then ItemsRise (λ d. option_map (item d) (of_items js)) (of_json j) (rise-of_json j)
      (λ d value. if_map ItemsRise (item d) (of_items js) (rise-of_items js) (λ ds rise. (value, rise)))

  rise-of_members : (ms : json.Members) (found : Members) → MembersRise found → IfSome (of_members ms found) MembersRise
  rise-of_members json.no_members found rise = rise
  rise-of_members (json.member k j ms) found rise =
      if_and_then MembersRise (λ d. of_members ms (put k d found)) (of_json j) (rise-of_json j)
      (λ d value. rise-of_members ms (put k d found) (rise_put k d found value rise))

rise_of_any : (o : Option json.Json) → IfSome (option_and_then of_json o) NamesRise
rise_of_any None = tt
rise_of_any (Some j) = rise-of_json j

-- the names rise in what is read
pub rise-read : (text : List ℕ) (value : Data) → read text ≡ Some value → NamesRise value
rise-read text value is =
    let parsed = option_and_then (λ p. json.if_last p.0 p.1) (json.value max_depth (tokens text)) in
    subst (λ o. IfSome o NamesRise) is (rise_of_any parsed)
