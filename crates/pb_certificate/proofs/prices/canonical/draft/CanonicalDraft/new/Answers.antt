use Rattle.std.proofs.Common.{refl}
use Rattle.pb_records.specs.Inside.RecordWriter.{held}
use Rattle.pb_certificate.proofs.OnPrices.Canon.Steps.{head-alone}
use Rattle.pb_certificate.proofs.prices.canonical.draft.CanonicalDraft.new.Goals as goal

pub returns : goal.returns
returns c =
    record {
      election = refl;
      sound = c.requires;
      each_project = refl;
      is_open = c.in_ok-add_heads.ensures.«open»;
      text = head-alone c.args.denominator c.args.budget (held c.open-writer.result) (held c.add_heads.new.writer)
          c.open-writer.ensures.text c.in_ok-add_heads.ensures.text;
    }
