use Rattle.std.proofs.Common.{◌≡◌, ◌==◌, rules, sym, ◌∙◌, ap, arith, to_z-of_z, true, cond, pos, int_le, int_lt}
use Rattle.pb_price.specs.Inside.Noted.{noted}
use Rattle.pb_price.specs.Inside.Looked.{compared}
use Rattle.pb_price.proofs.Looking.{found-same}
use Rattle.pb_price.proofs.explaining.ProjectFindings.look_at_unfunded.Goals as goal
use Rattle.pb_price.proofs.explaining.ProjectFindings.look_at_unfunded.Goals.{then-sums-ne0, else-sums-ne0}

pub returns : goal.returns
returns c =
    let a : c.note.new.self ≡ noted (int_le (pos c.args.cost) c.args.remaining)
    (compared c.args.j c.args.cost c.args.remaining) c.args.self.now.exhaustive =
    first_of (search (rules, to_z-of_z, c.note.ensures), grind (arith, to_z-of_z, c.note.ensures)) in
    let d : c.note-2.new.self ≡ noted (int_lt (pos c.args.cost) c.args.sums.left)
    (compared c.args.j c.args.cost c.args.sums.left) c.args.self.now.c5 =
    first_of (search (rules, to_z-of_z, c.note-2.ensures), grind (arith, to_z-of_z, c.note-2.ensures)) in
    let e : c.note-3.new.self ≡ noted (int_lt (pos c.args.cost) c.args.sums.offer)
    (compared c.args.j c.args.cost c.args.sums.offer) c.args.self.now.s5 =
    first_of (search (rules, to_z-of_z, c.note-3.ensures), grind (arith, to_z-of_z, c.note-3.ensures)) in
    elim c.if-sums-ne0.branch [
      | then-sums-ne0 w ↦
          let b : w.note-then-sums-ne0.new.self
          ≡ cond (c.args.sums.paid == 0) c.args.self.now.c4
          (noted true (compared c.args.j 0 (pos c.args.sums.paid)) c.args.self.now.c4) =
          first_of (
            search (rules, to_z-of_z, w.note-then-sums-ne0.ensures),
            grind (arith, to_z-of_z, w.note-then-sums-ne0.ensures),
          ) in
          found-same _ _ _ _ _ _ _ _ _ _ (ap (λ x. x.exhaustive) w.self-is ∙ a) (ap (λ x. x.c3) w.self-is)
          (ap (λ x. x.c4) w.self-is ∙ b) d e
      | else-sums-ne0 w ↦
          let b : cond (c.args.sums.paid == 0) c.args.self.now.c4
          (noted true (compared c.args.j 0 (pos c.args.sums.paid)) c.args.self.now.c4) ≡ c.args.self.now.c4 =
          ap
          (λ n. cond (n == 0) c.args.self.now.c4
          (noted true (compared c.args.j 0 (pos c.args.sums.paid)) c.args.self.now.c4)) w.if-sums-ne0.false in
          found-same _ _ _ _ _ _ _ _ _ _ (ap (λ x. x.exhaustive) w.self-is ∙ a) (ap (λ x. x.c3) w.self-is)
          (ap (λ x. x.c4) w.self-is ∙ sym b) d e
    ]
