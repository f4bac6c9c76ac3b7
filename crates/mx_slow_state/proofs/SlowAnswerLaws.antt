-- What the plain slow program answers to a statement, and keeps after it.
use Rattle.std.proofs.Common.{◌≡◌, inl, inr, ℕ, List, [], Option, Some, None, Result, Ok, Err, refl, sym, ap, ◌∙◌, subst}
use Rattle.std.specs.Prelude.{MatchResult}
use Rattle.mx_base.specs.declared.ids.IndexId.{IndexId}
use Rattle.mx_base.specs.declared.ids.SpaceId.{SpaceId}
use Rattle.mx_base.specs.declared.refusal.Refusal.{Refusal}
use Rattle.mx_base.specs.declared.refusal.Refusal.TheVariants.{OutOfMemory}
use Rattle.mx_key.specs.declared.iterator.IterKind.{IterKind}
use Rattle.mx_request.specs.declared.request.Request.{Request}
use Rattle.mx_request.specs.declared.request.Request.TheVariants as request
use Rattle.mx_row.specs.declared.row.Row.{Row}
use Rattle.mx_schema.specs.Sound.{IsSound}
use Rattle.mx_schema.specs.State.{State}
use Rattle.mx_judge.specs.declared.made.Made as code
use Rattle.mx_write.specs.declared.writable.Writer.TheVariants.{Client}
use Rattle.mx_write.specs.Change.{Change, state_after_changed}
use Rattle.mx_write.specs.Judge.{judged_write}
use Rattle.mx_write.specs.Judged.{Judged}
use Rattle.mx_write.specs.Made.{Made, nothing, row_with}
use Rattle.mx_write.specs.Stages.{IsRefusedBy}
use Rattle.mx_judge.specs.Makes.{MakesOf, tuple_after, tuples_shown}
use Rattle.mx_write.specs.Writes.{Write, write_in}
use Rattle.std.specs.Option.{option_map}
use Rattle.mx_slow_state.specs.declared.slow_state.answers.SlowAnswer.{SlowAnswer}
use Rattle.mx_judge.proofs.InstallLaws.{changed_so, judged_so}
use Rattle.mx_write.proofs.SoundLaws.{change_sound}
use Rattle.mx_model.specs.declared.reply.Reply.{Reply}
use Rattle.mx_model.specs.declared.reply.Reply.TheVariants.{Tuples, Refused}
use Rattle.mx_slow_state.specs.declared.slow_state.SlowState.{SlowState}
use Rattle.mx_model.specs.Frame.{answer_to_statement}
use Rattle.mx_slow_state.specs.SlowState.{HasAnswer, IsSlowMade, IsSlowState, KeepsTuples}
use Rattle.mx_model.specs.statements.Answer.{Answer}
use Rattle.mx_model.specs.statements.Select.{iterator_of, select_answer_in}
use Rattle.mx_model.specs.statements.Statement.{Selects, Statement, Writes, statement_of, write_statement}
use Rattle.mx_model.specs.statements.Write.{answer_of_outcome, write_answer_in}
use Rattle.mx_model.proofs.AnswerLaws.{Agrees, select_agrees, select_no_row}

-- ---- SELECT

no_change : (before : State) (answer : Answer) → answer.row ≡ None → Agrees before answer → answer.change ≡ None
no_change before answer none (inl (row, change)) = change
no_change before answer none (inr (row, is, same)) = absurd cc

-- what it is answered, without a write
pub slow_selects : (before : State) (asked : Request) (space : SpaceId) (index : IndexId) (limit offset iterator : ℕ) (key sought : List ℕ) (kind : IterKind) (reply : Reply)
    → asked ≡ request.Select space index limit offset iterator key → sought ≡ key → kind ≡ iterator_of iterator
    → reply ≡ (select_answer_in before space.0 index.0 limit offset kind sought).reply
    → (statement : Statement) × (statement_of asked ≡ Some statement)
    × HasAnswer (record { reply = reply; write = None }) before statement.space (answer_to_statement before statement)
slow_selects before asked space index limit offset iterator key sought kind reply same sought_is kind_is tells =
    let answer = select_answer_in before space.0 index.0 limit offset (iterator_of iterator) key in
    let none = select_no_row before space.0 index.0 limit offset (iterator_of iterator) key in
    let exact : select_answer_in before space.0 index.0 limit offset kind sought ≡ answer =
    ap (λ k. select_answer_in before space.0 index.0 limit offset kind k) sought_is ∙ ap (λ k. select_answer_in before space.0 index.0 limit offset k key) kind_is in (
      record { space = space.0; operation = Selects index.0 limit offset iterator key },
      ap statement_of same,
      record {
        reply = tells ∙ ap (λ a. a.reply) exact;
        write = (none, no_change before answer none (select_agrees before space.0 index.0 limit offset (iterator_of iterator) key));
      },
    )

-- ---- writes

-- the statement of a request that writes
written_statement : (asked : Request) (space : ℕ) (write : Write) → write_in asked ≡ Some (space, write) → statement_of asked ≡ Some (record { space = space; operation = Writes write })
written_statement (request.Select number index limit offset iterator key) space write is = absurd cc
written_statement (request.Insert number tuple) space write is = ap (option_map write_statement) is
written_statement (request.Replace number tuple) space write is = ap (option_map write_statement) is
written_statement (request.Update number index base key operations) space write is = ap (option_map write_statement) is
written_statement (request.Delete number index key) space write is = ap (option_map write_statement) is
written_statement (request.Upsert number base tuple operations) space write is = ap (option_map write_statement) is
written_statement request.Nop space write is = absurd cc
written_statement request.Ping space write is = absurd cc
written_statement request.Begin space write is = absurd cc
written_statement request.Commit space write is = absurd cc
written_statement request.Rollback space write is = absurd cc
written_statement request.Id space write is = absurd cc
written_statement (request.Join instance) space write is = absurd cc
written_statement (request.Subscribe instance set clock) space write is = absurd cc
written_statement (request.Ack clock) space write is = absurd cc

module _ (before : State) (asked : Request) (space : ℕ) (write : Write) (writes : write_in asked ≡ Some (space, write)) where
  abbrev judged : Judged Made
  judged = judged_write Client before space write

  abbrev pub AnswersStatement : SlowAnswer → Type 0
  AnswersStatement found = (statement : Statement) × (statement_of asked ≡ Some statement) × HasAnswer found before statement.space (answer_to_statement before statement)

  answers : (found : SlowAnswer) → HasAnswer found before space (write_answer_in before space write) → AnswersStatement found
  answers found has = (record { space = space; operation = Writes write }, written_statement asked space write writes, has)

  -- it is refused
  pub slow_refuses : (why : Refusal) (reply : Reply) → (reply ≡ Refused why) × (why ≡ OutOfMemory → ⊥) → IsRefusedBy why judged
      → AnswersStatement (record { reply = reply; write = None })
  slow_refuses why reply (told, known) (inl is) = answers _
      (subst (λ outcome. HasAnswer (record { reply = reply; write = None }) before space (answer_of_outcome judged.reads outcome)) (sym is)
      (record { reply = told; write = (refl, refl) }))
  slow_refuses why reply (told, known) (inr none) = absurd (known none)

  -- it finds nothing that it could change
  pub slow_finds_none : (tuples : List (List ℕ)) → tuples ≡ [] → judged.outcome ≡ Ok nothing
      → AnswersStatement (record { reply = Tuples tuples; write = None })
  slow_finds_none tuples none is = answers _
      (subst (λ outcome. HasAnswer (record { reply = Tuples tuples; write = None }) before space (answer_of_outcome judged.reads outcome)) (sym is)
      (record { reply = ap (λ t. Tuples t) none; write = (refl, refl) }))

  -- it changes a tuple
  pub slow_makes : (number : SpaceId) (found : code.Made) (tuples : List (List ℕ)) (row : Row) → number.0 ≡ space → tuples ≡ tuples_shown found.effect
      → row ≡ row_with space write found.row_key → MakesOf before space write found judged
      → AnswersStatement (record { reply = Tuples tuples; write = Some (record { space = number; row = row; made = found }) })
  slow_makes number found tuples row same shown row_is (made, is, makes) = answers _
      (subst (λ outcome. HasAnswer (record { reply = Tuples tuples; write = Some (record { space = number; row = row; made = found }) }) before space
      (answer_of_outcome judged.reads outcome)) (sym is) (record {
        reply = ap (λ t. Tuples t) (shown ∙ sym makes.shown);
        write = (same, leaves, record { write = write; made = made; outcome = is; makes = makes; row_is = leaves; is = refl });
      }))
    where
      leaves : made.row ≡ Some row
      leaves = makes.row ∙ ap (λ r. Some r) (sym row_is)

-- ---- its change

-- the state stays sound
made_sound : (before : State) (space : ℕ) (row : Row) (found : code.Made) (change : Option Change) → IsSound before → IsSlowMade before space row found change
    → IsSound (state_after_changed before change)
made_sound before space row found change sound is =
    subst (λ c. IsSound (state_after_changed before c)) (sym is.is)
    (changed_so before space is.write found is.made is.makes Client is.outcome IsSound
    (change_sound before sound space is.makes.key (tuple_after found.effect) is.makes.fit (judged_so before space is.write found is.made is.makes Client is.outcome)))

pub slow_changes : {X E : Type 0} (old new : SlowState) (before : State) (space : ℕ) (row : Row) (found : code.Made) (change : Option Change) (result : Result X E)
    → IsSlowState old before → (is : IsSlowMade before space row found change)
    → MatchResult result (λ _. KeepsTuples new (state_after_changed before is.made.change)) (λ _. KeepsTuples new before)
    → MatchResult result (λ _. IsSlowState new (state_after_changed before change)) (λ _. IsSlowState new before)
slow_changes old new before space row found change (Ok x) had is keeps = record {
  keeps = subst (λ c. KeepsTuples new (state_after_changed before c)) (sym is.is) keeps;
  sound = made_sound before space row found change had.sound is;
}
slow_changes old new before space row found change (Err e) had is keeps = record { keeps = keeps; sound = had.sound }
