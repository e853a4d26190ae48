-- Each example is what its definition computes; of a fault the lines before it and the line itself are told.
use Rattle.std.proofs.Common.{◌≡◌, ℕ, [], ◌∷◌, codes, inl, inr, refl, sym, arith, lit≤}
use Rattle.std.specs.Fmt.{digits}
use Rattle.laws.specs.declared.kind.KindLetter.TheVariants.{F}
use Rattle.rules.specs.Stop.{brake_force, train_drag, holding_force, braking_run, delay_run}
use Rattle.rules.specs.Mass.{holds_cautiously, greatest_mass}
use Rattle.rules.proofs.Tables.{none_some}
use Rattle.text.specs.Numerals.{Lacks}
use Rattle.printing.specs.Lines.{fault_told}
use Rattle.runfile.specs.Run.{head, IsRun}
use Rattle.answering.specs.Worked.{ended, worked_text, worked_request, worked_book}
use Rattle.answering.proofs.theorems.run_files_are_worked.Goals as goal

-- a line of five bytes without a line feed
five_plain : (a b c d e : ℕ) → (a ≡ 10 → ⊥) → (b ≡ 10 → ⊥) → (c ≡ 10 → ⊥) → (d ≡ 10 → ⊥) → (e ≡ 10 → ⊥) → Lacks 10 (a ∷ b ∷ c ∷ d ∷ e ∷ [])
five_plain a b c d e p q r s t = (p, (q, (r, (s, (t, tt)))))

-- the example is made of proper lines
is_run : IsRun worked_text worked_request worked_book
unfolding digits
is_run =
    record {
      short = lit≤ tt;
      good = (
        record { allowed = (lit≤ tt, lit≤ tt); proper = (lit≤ tt, refl, tt) },
        (
          record { allowed = (lit≤ tt, lit≤ tt); proper = ((lit≤ tt, lit≤ tt), refl, ((lit≤ tt, lit≤ tt), refl, tt)) },
          (
            record { allowed = (lit≤ tt, lit≤ tt); proper = ((refl, lit≤ tt, lit≤ tt), refl, ((refl, lit≤ tt, lit≤ tt), refl, tt)) },
            (
              record {
                allowed = (lit≤ tt, lit≤ tt);
                proper = ((lit≤ tt, lit≤ tt, lit≤ tt, lit≤ tt, lit≤ tt), refl, ((lit≤ tt, lit≤ tt, lit≤ tt, lit≤ tt, lit≤ tt), refl, tt));
              },
              (
                record {
                  allowed = (lit≤ tt, lit≤ tt);
                  proper = ((lit≤ tt, lit≤ tt, lit≤ tt), tt, ((lit≤ tt, lit≤ tt), tt, ((lit≤ tt, lit≤ tt, lit≤ tt), tt, tt)));
                },
                tt,
              ),
            ),
          ),
        ),
      );
      is = refl;
    }

pub returns : goal.returns
unfolding brake_force train_drag holding_force braking_run delay_run holds_cautiously greatest_mass fault_told digits
returns c =
    record {
      number = (lit≤ tt, refl);
      number_under_zero = (lit≤ tt, refl);
      leading = (lit≤ tt, refl);
      three = (lit≤ tt, lit≤ tt, lit≤ tt, refl);
      heading_line = refl;
      first_line = refl;
      line_of_point = refl;
      line_of_vehicle = refl;
      line_of_section = refl;
      line_of_stop = refl;
      line_of_speed = refl;
      line_of_mass = refl;
      is_run = is_run;
      replied = refl;
      printed = refl;
      speed_printed = refl;
      empty = inr (lit≤ tt, inl (0, inl (refl, inl (inl (refl, refl))), refl));
      two_heads =
          let plain = five_plain 82 85 78 32 50 (λ e. omega arith) (λ e. omega arith) (λ e. omega arith) (λ e. omega arith) (λ e. omega arith) in
          inr (
            lit≤ tt,
            inl (
              0,
              inl (
                refl,
                inr (
                  codes "RUN 2",
                  ended (codes "F 1000" ∷ []),
                  record { whole = refl; first = plain },
                  inr (refl, (2, (lit≤ tt, refl), λ h. omega (arith, h.1))),
                ),
              ),
              refl,
            ),
          );
      too_near =
          let plain = five_plain 70 32 51 57 57 (λ e. omega arith) (λ e. omega arith) (λ e. omega arith) (λ e. omega arith) (λ e. omega arith) in
          inr (
            lit≤ tt,
            inl (
              1,
              inr (record {
                due = 1;
                entries = ended (codes "F 399" ∷ []);
                begins = record { formed = lit≤ tt; lawful = (lit≤ tt, lit≤ tt); line = refl };
                done = 0;
                fault = record {
                  done = [];
                  rest = ended (codes "F 399" ∷ []);
                  begins = record { proper = tt; lines = refl };
                  counted = refl;
                  fewer = lit≤ tt;
                  fault = inr (codes "F 399", [], record { whole = refl; first = plain }, inr (refl, (head F 399, (lit≤ tt, refl), λ h. none_some 6 (sym h))));
                };
                counted = refl;
              }),
              refl,
            ),
          );
      fault_printed = refl;
      line_printed = refl;
    }
