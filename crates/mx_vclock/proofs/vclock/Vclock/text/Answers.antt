use Rattle.std.proofs.Common.{rules, arith, ◌++◌, ap, sym, ◌∙◌, ◌∷◌, [], get_or}
use Rattle.std.specs.String.{string_bytes}
use Rattle.mx_vclock.specs.Text.{component_texts}
use Rattle.mx_vclock.proofs.TextLaws.{goes_on, goes_on-separated, components-skipped, goes_on-shown, goes_on-end}
use Rattle.mx_vclock.proofs.vclock.Vclock.text.Goals as goal
use Rattle.mx_vclock.proofs.vclock.Vclock.text.Goals.{then-lsn-ne0+in_ok-write, else-lsn-ne0}

pub loop-id-init : goal.loop-id-init
unfolding lib.Utf8.encode
loop-id-init c = record {
  utf8 = search rules;
  written = rw (c.in_ok-push.ensures.bytes, c.in_ok-text.ensures.bytes) (ap (λ rest. 123 ∷ rest) (goes_on-separated (component_texts 0 c.args.self.now)));
}

pub loop-id-preserved : goal.loop-id-preserved
loop-id-preserved c =
    let lsn = ap (λ lsns. get_or lsns c.loop-id.id-counter 0) c.lsns-lsn-items.ensures.value in
    elim c.if-lsn-ne0.branch [
      | then-lsn-ne0+in_ok-write w ↦ record {
        utf8 = rw w.between-is (search rules);
        written = rw (w.text-is, w.between-is, w.in_ok-write.ensures.bytes) (goes_on-shown (string_bytes c.loop-id.text) c.loop-id.between.now _ c.args.self.now c.loop-id.id-counter _ (omega (arith, c.lsns-lsn-items.ensures.whole)) lsn w.if-lsn-ne0.true c.loop-id.invariant.written);
      }
      | else-lsn-ne0 w ↦ record {
        utf8 = rw w.between-is c.loop-id.invariant.utf8;
        written = rw (w.text-is, w.between-is) (ap (λ rest. string_bytes c.loop-id.text ++ goes_on c.loop-id.between.now rest) (sym (components-skipped c.args.self.now c.loop-id.id-counter _ (omega (arith, c.lsns-lsn-items.ensures.whole)) lsn w.if-lsn-ne0.false)) ∙ c.loop-id.invariant.written);
      }
    ]

pub returns : goal.returns
unfolding lib.Utf8.encode
returns c =
    let written = goes_on-end _ _ _ c.args.self.now c.loop-id.id-counter (omega (arith, c.lsns-lsn-items.ensures.whole)) c.loop-id.invariant.written in
    c.from_vec.ensures ∙ ap (λ v. v.items) c.into_bytes.ensures.value ∙ c.in_ok-push-2.ensures.bytes ∙ ap (λ front. front ++ 125 ∷ []) written
