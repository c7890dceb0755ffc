-- Tasks that read no bytes, carried out one after another.
use Rattle.std.proofs.Common.{◌≡◌, ℕ, ◌+◌, ◌≤◌, false, List, [], ◌∷◌, ◌++◌, Ok, refl, sym, ap, ◌∙◌, subst, ◌||◌, arith}
use Rattle.std.specs.Prelude.{is_err}
use Rattle.std.proofs.lemmas.Grind.{flat_map-append}
use Rattle.std.proofs.lemmas.List.Concat.{flat_map-cons}
use Rattle.std.proofs.lemmas.List.{length-append}
use Rattle.chip.specs.Chains.{Exchange, IsExchange}
use Rattle.chip.specs.Meaning.{Meaning}
use Rattle.chip.specs.Sent.{Event, register_write}
use Rattle.chip.specs.Taken.{answer_by, is_answered}
use Rattle.chip.specs.declared.bus_frame.Reply.TheVariants.{Done}
use Rattle.port.specs.Acts.{exchanged, pulsed, IsPulse, done, next}
use Rattle.port.specs.Answers.{bytes_in}
use Rattle.port.specs.Carried.{CarriesOut, Sets, set_by}
use Rattle.port.specs.Plans.{Task, send, pulse}
use Rattle.port.specs.declared.traffic.Traffic.{Traffic}
use Rattle.port.proofs.ActLists.{acts_joined, any_lost-append, ends, follows_joined, last_answer-append, traffic_of-cons, traffic_of-append}
use Rattle.port.proofs.Frames.{FrameFacts}
use Rattle.port.proofs.Sends.{low_most}

module _ {X : Type 0} (meaning : X → Meaning) (gives : X → Event → X → Type 0) where
  -- the same tasks and the same traffic
  pub carries_by : (c d : X) (p q : List Task) (t u : Traffic) → p ≡ q → u ≡ t → CarriesOut meaning gives c p t d
      → CarriesOut meaning gives c q u d
  carries_by c d p q t u tasks traffic carries =
      subst (λ v. CarriesOut meaning gives c q v d) (sym traffic)
      (subst (λ r. CarriesOut meaning gives c r t d) tasks carries)

  -- nothing to do
  pub carries_none : (c : X) → CarriesOut meaning gives c [] record { frames = 0; clocks = 0 } c
  carries_none c = record {
    did = [];
    acts = done;
    follows = refl;
    none_lost = refl;
    answered = refl;
    silent = refl;
    traffic_is = refl;
    few = omega arith;
    short = omega arith;
  }

  -- one frame that is answered and reads no bytes
  pub carries_frame : (c d : X) (x : Exchange) → IsExchange meaning gives c x d → x.answer ≡ Ok Done
      → bytes_in (exchanged x) ≡ []
      → CarriesOut meaning gives c (send x.frame ∷ []) record { frames = 1; clocks = x.low } d
  carries_frame c d x one answer none = let plain : x.low ≡ x.low + 0 = omega arith in record {
    did = exchanged x ∷ [];
    acts = next one done;
    follows = (refl, ends (is_err x.answer));
    none_lost = ap (λ r. is_err r || false) answer;
    answered = answer;
    silent = flat_map-cons bytes_in (exchanged x) [] ∙ ap (λ bytes. bytes ++ []) none;
    traffic_is = (λ i. record { frames = 1; clocks = plain i }) ∙ sym (traffic_of-cons (exchanged x) []);
    few = omega arith;
    short = omega (arith, low_most meaning gives c d x one);
  }

  -- one pulse
  pub carries_pulse : (c d : X) (n : ℕ) → IsPulse meaning gives c n d
      → CarriesOut meaning gives c (pulse n ∷ []) record { frames = 0; clocks = 0 } d
  carries_pulse c d n one = record {
    did = pulsed n ∷ [];
    acts = next one done;
    follows = (refl, refl);
    none_lost = refl;
    answered = refl;
    silent = refl;
    traffic_is = sym (traffic_of-cons (pulsed n) []);
    few = omega arith;
    short = omega arith;
  }

  -- some tasks, and then others
  pub carries_both : (c d e : X) (p q : List Task) (t u : Traffic) → CarriesOut meaning gives c p t d
      → CarriesOut meaning gives d q u e
      → CarriesOut meaning gives c (p ++ q) record { frames = t.frames + u.frames; clocks = t.clocks + u.clocks } e
  carries_both c d e p q t u first second = record {
    did = first.did ++ second.did;
    acts = acts_joined meaning gives c d e first.did second.did first.acts second.acts;
    follows = follows_joined p q first.did second.did first.follows first.none_lost second.follows;
    none_lost = any_lost-append first.did second.did first.none_lost ∙ second.none_lost;
    answered = last_answer-append first.did second.did first.answered second.answered;
    silent = flat_map-append bytes_in first.did second.did ∙ (λ i. first.silent i ++ second.silent i);
    traffic_is =
        (λ i. record {
          frames = (first.traffic_is i).frames + (second.traffic_is i).frames;
          clocks = (first.traffic_is i).clocks + (second.traffic_is i).clocks;
        })
        ∙ sym (traffic_of-append first.did second.did);
    few = subst (λ n. t.frames + u.frames ≤ n) (sym (length-append p q)) (omega (arith, first.few, second.few));
    short = omega (arith, first.short, second.short);
  }

  -- ---- the write of a register

  -- is done
  pub set_answer : (c d : X) (x : Exchange) (r v : ℕ) → FrameFacts (meaning c) x (meaning d)
      → x.frame ≡ register_write r v → x.answer ≡ Ok Done
  set_answer c d x r v facts is =
      facts.answer ∙ ap (λ f. answer_by (meaning c).config (meaning c).state (is_answered (meaning d) f) f) is

  -- and sets the register
  pub sets : (c d : X) (x : Exchange) (r v : ℕ) → FrameFacts (meaning c) x (meaning d)
      → x.frame ≡ register_write r v → Sets r v (meaning c) (meaning d)
  sets c d x r v facts is = record {
    awake = facts.awake;
    config = facts.same.config;
    mr0 = facts.mr0 ∙ ap (λ f. set_by f 0 (meaning c).state.mr0) is;
    mr4 = facts.mr4 ∙ ap (λ f. set_by f 4 (meaning c).state.mr4) is;
    mr8 = facts.mr8 ∙ ap (λ f. set_by f 8 (meaning c).state.mr8) is;
  }
