-- What a clause sees of a statement in place.
use Rattle.mx_base.specs.declared.ids.SpaceId.{SpaceId}
use Rattle.mx_msgpack.specs.Items.{IsArray}
use Rattle.mx_write.specs.declared.write.Write.{Write}
use Rattle.mx_write.specs.Views.{AreArrays, write_view}
use Rattle.mx_model.specs.statements.Statement.{Selects, Statement, Writes}
use Rattle.mx_engine.specs.declared.statement.SelectRef.{SelectRef}
use Rattle.mx_engine.specs.declared.statement.StatementRef.{StatementRef}
use Rattle.mx_engine.specs.declared.statement.StatementRef.TheVariants as place

-- a SELECT without where its key lies in memory
abbrev pub select_view : SelectRef → Statement
select_view select = record { space = select.space.0; operation = Selects select.index.0 select.limit select.offset select.iterator select.key.now }

-- a write in a space
abbrev pub write_in_space : SpaceId → Write → Statement
write_in_space space write = record { space = space.0; operation = Writes (write_view write) }

abbrev pub statement_view : StatementRef → Statement
statement_view (place.Select select) = select_view select
statement_view (place.Write space write) = write_in_space space write

-- its key or its tuple is an array
abbrev pub AreKeysArrays : StatementRef → Type 0
AreKeysArrays (place.Select select) = IsArray select.key.now
AreKeysArrays (place.Write space write) = AreArrays write
