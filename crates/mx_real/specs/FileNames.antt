-- The names that a file right in a folder may have.
use Rattle.std.specs.Prelude.{◌≢◌, ◌≡◌, ◌==◌, ℕ, List, [], false, codes}
use Rattle.std.specs.List.{list_any}

-- not empty, not the folder or its parent, and with no slash and no NUL
pub record IsFileName (name : List ℕ) : Type 0 where
  pub some : name ≢ []
  pub inside : name ≢ codes "."
  pub below : name ≢ codes ".."
  pub unparted : list_any (λ byte. byte == 47) name ≡ false
  pub unended : list_any (λ byte. byte == 0) name ≡ false
