-- Statements: the requests on the tuples of one space.
use Rattle.std.specs.Prelude.{ℕ, List, Option, Some}
use Rattle.std.specs.Option.{option_map}
use Rattle.mx_request.specs.declared.request.Request.{Request}
use Rattle.mx_request.specs.declared.request.Request.TheVariants as request
use Rattle.mx_write.specs.Writes.{Write, write_in}

-- what a statement does in its space: a SELECT, whose key is an array of MessagePack, or a write
pub data Operation : Type 0 where
  Selects : (index limit offset iterator : ℕ) (key : List ℕ) → Operation
  Writes : Write → Operation

pub record Statement : Type 0 where
  pub space : ℕ
  pub operation : Operation

abbrev pub write_statement : ℕ × Write → Statement
write_statement (space, write) = record { space = space; operation = Writes write }

-- the statement that a request is, if it is one
abbrev pub statement_of : Request → Option Statement
statement_of (request.Select space index limit offset iterator key) =
    Some (record { space = space.0; operation = Selects index.0 limit offset iterator key })
statement_of other = option_map write_statement (write_in other)
