-- The language of an answer.
use Rattle.std.specs.Prelude.{◌≡◌, ℕ, List, Option}
use Rattle.std.specs.Option.{unwrap_or}
use Rattle.icu_locale_matching.specs.Service.{Service, IsServed}

-- what is served for a header, else the first place
pub record IsAnswered (s : Service) (header : List ℕ) (place : ℕ) : Type 0 where
  pub served : Option ℕ
  pub is_served : IsServed s header served
  pub is : place ≡ unwrap_or served 0
