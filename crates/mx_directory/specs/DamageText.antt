-- The text of a damage, as `00000000000000000001.xlog 0 gap {} {1: 1}`.
use Rattle.std.specs.Prelude.{ℕ, List, [], ◌++◌, take, codes, decimal, if◌then◌else◌}
use Rattle.std.specs.Str.{is_utf8}
use Rattle.mx_vclock.specs.Vclocks.{replicas}
use Rattle.mx_vclock.specs.Text.{vclock_text}
use Rattle.mx_directory.specs.declared.damage.Damage.{Damage}
use Rattle.mx_directory.specs.declared.damage.DamageKind.{DamageKind}
use Rattle.mx_directory.specs.declared.damage.DamageKind.TheVariants.{Head, Gap, Row}

-- the name of a file; nothing where it isn't UTF-8
abbrev pub name_text : List ℕ → List ℕ
name_text name = if is_utf8 name then name else []

-- a vclock, which has as many lsns as there are replica ids
abbrev pub clock_text : List ℕ → List ℕ
clock_text clock = vclock_text (take replicas clock)

-- what is wrong, and of a gap the vclock reached and the one at which the file begins
abbrev pub kind_text : DamageKind → List ℕ
kind_text Head = codes "head"
kind_text (Gap reached begins) = codes "gap " ++ clock_text reached ++ codes " " ++ clock_text begins
kind_text Row = codes "row"

-- the file's name, the place in it and what is wrong there
abbrev pub damage_text : Damage → List ℕ
damage_text damage = name_text damage.file ++ codes " " ++ decimal damage.at ++ codes " " ++ kind_text damage.kind
