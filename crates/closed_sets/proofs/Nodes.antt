-- From a node of the search to its branches.
use Rattle.std.proofs.Common.{◌≡◌, ℕ, zero, suc, ◌+◌, ◌<◌, ◌≤◌, Bool, true, false, cond, IsTrue, List, [], ◌∷◌, ◌++◌, ◌⊎◌, inl, inr, length, take, drop, refl, sym, ◌∙◌, ap, subst, ◌↔◌, length-append, append_assoc, ◌-◌, arith}
use Rattle.std.specs.List.{Contains}
use Rattle.std.proofs.lemmas.Bool.{cases_lt, false≢true}
use Rattle.std.proofs.lemmas.List.{length-drop, length-take-le, take-append-drop, take_all}
use Rattle.std.proofs.lemmas.List.Elements.{Contains-append_cases, Contains-append_left, Contains-append_right, Contains-push, Contains-push_cases}
use Rattle.closed_sets.specs.Families.{IsHereditary}
use Rattle.sky_units.specs.Tracks.{AreAmong}
use Rattle.closed_sets.specs.Around.{FitTogether, IsFree}
use Rattle.closed_sets.specs.Counting.{AreDifferent, IsPaid, Rises}
use Rattle.closed_sets.specs.Search.{AreBeside, AreParted, Gains, IsClosedFrom, IsGrown, IsLargest, IsNarrowed, IsNode, IsSettled}
use Rattle.closed_sets.proofs.Fitting.{beside, closed_is_full, fits_beside, others_beside, set_of_them}
use Rattle.closed_sets.proofs.Lists.{among, common_or_none, different_append, different_left, different_right, front_or_rest, in_dropped, in_front, in_or_not, in_rest, in_taken, in_whole, same_sets, taken_apart, taken_or_dropped}
use Rattle.closed_sets.proofs.Paying.{paid_none, paid_once}

pub take_front : (xs ys : List ℕ) → take (length xs) (xs ++ ys) ≡ xs
take_front [] ys = refl
take_front (x ∷ xs) ys = ap (λ (zs : List ℕ). x ∷ zs) (take_front xs ys)

-- where a list is longer than a front, it has another member
pub one_left : (n : ℕ) (xs : List ℕ) → n < length xs → (x : ℕ) × Contains (drop n xs) x
one_left n [] h = absurd (omega arith)
one_left zero (x ∷ xs) h = (x, in_front x xs)
one_left (suc n) (x ∷ xs) h = one_left n xs (omega arith)

-- what a slice from a place to the end holds
pub to_the_end : (xs : List ℕ) (n : ℕ) → take (length xs - n) (drop n xs) ≡ drop n xs
to_the_end xs n =
    let size : length (drop n xs) ≡ length xs - n = length-drop n xs in
    take_all (length xs - n) (drop n xs) (omega arith)

-- what a call tells of slices that part a list, told of the list
pub parted_there : (numbers slice largest other rest : List ℕ) (first end : ℕ) → other ≡ largest → slice ≡ numbers → AreParted (take first slice) (take (length slice - first) (drop first slice)) other rest end → AreParted (take first numbers) (drop first numbers) largest rest end
parted_there numbers slice largest other rest first end e f p =
    subst (λ (ns : List ℕ). AreParted (take first ns) (drop first ns) largest rest end) f (subst (λ (xs : List ℕ). AreParted (take first slice) xs largest rest end) (to_the_end slice first) (subst (λ (s : List ℕ). AreParted (take first slice) (take (length slice - first) (drop first slice)) s rest end) e p))

module _ (Fits : List ℕ → Type 0) (law : IsHereditary Fits) where
  module _ (set others : List ℕ) (first : ℕ) (known : AreBeside Fits set others) (within : first ≤ length others) where
    abbrev excluded : List ℕ
    excluded = take first others

    abbrev candidates : List ℕ
    candidates = drop first others

    whole : AreDifferent (take first others ++ drop first others)
    whole = subst AreDifferent (sym (take-append-drop first others)) known.different

    in_candidates : (x : ℕ) → Contains candidates x → Contains others x
    in_candidates x c = in_dropped first others x c

    in_excluded : (x : ℕ) → Contains excluded x → Contains others x
    in_excluded x c = in_taken first others x c

    either : (x : ℕ) → Contains others x → Contains excluded x ⊎ Contains candidates x
    either x c = taken_or_dropped first others x c

    apart : (x : ℕ) → Contains excluded x → ¬ Contains candidates x
    apart x c = taken_apart first others known.different x c

    size : length (take first others) ≡ first
    size = length-take-le first others within

    -- the others with those candidates excluded too that lie outside a set
    module _ (numbers largest : List ℕ) (end : ℕ) (p : AreParted (take first others) (drop first others) largest numbers end) where
      ordered : AreDifferent ((excluded ++ p.outside) ++ p.inside)
      ordered =
          let d = p.different (different_right (take first others) (drop first others) whole) in
          different_append (excluded ++ p.outside) p.inside
          (different_append excluded p.outside (different_left (take first others) (drop first others) whole) d.0 (λ x c k. apart x c ((p.exactly x).1 (inl k))))
          d.1
          (λ x c k. elim (Contains-append_cases excluded p.outside x c) [
            | inl m ↦ apart x m ((p.exactly x).1 (inr k))
            | inr m ↦ p.out x m (p.within x k)
          ])

      same_members : (x : ℕ) → Contains numbers x ↔ Contains others x
      same_members x = (
        λ c. elim (Contains-append_cases (excluded ++ p.outside) p.inside x (subst (λ (xs : List ℕ). Contains xs x) p.is c)) [
          | inl d ↦ elim (Contains-append_cases excluded p.outside x d) [
            | inl k ↦ in_excluded x k
            | inr k ↦ in_candidates x ((p.exactly x).1 (inl k))
          ]
          | inr d ↦ in_candidates x ((p.exactly x).1 (inr d))
        ],
        λ c. subst (λ (xs : List ℕ). Contains xs x) (sym p.is) (elim (either x c) [
          | inl d ↦ Contains-append_left (excluded ++ p.outside) p.inside x (Contains-append_left excluded p.outside x d)
          | inr d ↦ elim ((p.exactly x).0 d) [
            | inl k ↦ Contains-append_left (excluded ++ p.outside) p.inside x (Contains-append_right excluded p.outside x k)
            | inr k ↦ Contains-append_right (excluded ++ p.outside) p.inside x k
          ]
        ]),
      )

      at_end : take end numbers ≡ excluded ++ p.outside
      at_end = ap (λ (n : ℕ). take n numbers) p.at ∙ (ap (λ (xs : List ℕ). take (length (excluded ++ p.outside)) xs) p.is ∙ take_front (excluded ++ p.outside) p.inside)

      pub parted_beside : AreBeside Fits set numbers
      parted_beside = record {
        different = subst AreDifferent (sym p.is) ordered;
        new = λ x c. known.new x ((same_members x).0 c);
        complete = λ x new t. (same_members x).1 (known.complete x new t);
      }

      pub same_others : (x : ℕ) → Contains numbers x ↔ Contains others x
      same_others x = same_members x

      pub parted_sizes : (first ≤ end) × (end ≤ length numbers) × (length numbers ≤ length others)
      parted_sizes =
          let taken : length excluded ≡ first = size in
          let rest : length candidates ≡ length others - first = length-drop first others in
          let low : first ≤ length others = within in
          let longer : length (excluded ++ p.outside) ≡ length excluded + length p.outside = length-append excluded p.outside in
          let longest : length ((excluded ++ p.outside) ++ p.inside) ≡ length (excluded ++ p.outside) + length p.inside = length-append (excluded ++ p.outside) p.inside in
          let all : length numbers ≡ length ((excluded ++ p.outside) ++ p.inside) = ap length p.is in
          let parts : length p.outside + length p.inside ≡ length candidates = p.size in
          let at : end ≡ length (excluded ++ p.outside) = p.at in
          (omega arith, omega arith, omega arith)

      pub parted_same : take first numbers ≡ take first others
      parted_same =
          let front : take (length excluded) (excluded ++ (p.outside ++ p.inside)) ≡ excluded = take_front excluded (p.outside ++ p.inside) in
          ap (λ (n : ℕ). take n numbers) (sym size) ∙ (ap (λ (xs : List ℕ). take (length excluded) xs) (p.is ∙ append_assoc excluded p.outside p.inside) ∙ front)

      -- what has all of the node's set and nothing that is excluded then lies in the set that parts them
      pub inside : AreAmong set largest → (found : List ℕ) → Fits found → AreAmong set found → IsFree (take end numbers) found → (x : ℕ) → Contains found x → Contains largest x
      inside has found f a free x c = elim (in_or_not set x) [
        | inl d ↦ in_whole set largest x has d
        | inr new ↦ (
            let there : Contains numbers x = (same_members x).1 (known.complete x new (fits_beside Fits x set found f c a)) in
            elim (Contains-append_cases (excluded ++ p.outside) p.inside x (subst (λ (xs : List ℕ). Contains xs x) p.is there)) [
              | inl k ↦ absurd (free x (subst (λ (xs : List ℕ). Contains xs x) (sym at_end) k) c)
              | inr k ↦ p.within x k
            ])
      ]

      module _ (l : IsLargest Fits set (drop first others) largest) where
        -- a largest set holds none of the numbers that are excluded then
        pub largest_free : IsFree (take end numbers) largest
        largest_free x c d =
            let k : Contains (excluded ++ p.outside) x = subst (λ (xs : List ℕ). Contains xs x) at_end c in
            elim (Contains-append_cases excluded p.outside x k) [
              | inl m ↦ elim (l.only x d) [
                | inl n ↦ known.new x (in_excluded x m) n
                | inr n ↦ apart x m n
              ]
              | inr m ↦ p.out x m d
            ]

        -- the largest set, where it is closed
        pub settled : (closed : Bool) (old new : List (List ℕ)) → (IsTrue closed ↔ ((x : ℕ) → Contains (take first others) x → ¬ FitTogether Fits (x ∷ largest))) → new ≡ cond closed (old ++ largest ∷ []) old → Gains (IsClosedFrom Fits set (take end numbers)) old new
        settled closed old new says e = by closed says e
          where
            is_closed : ((x : ℕ) → Contains excluded x → ¬ FitTogether Fits (x ∷ largest)) → IsClosedFrom Fits set (take end numbers) largest
            is_closed none = record {
              closed = (closed_is_full Fits largest).1 (
                l.fits,
                λ x t. elim (in_or_not set x) [
                  | inl c ↦ in_whole set largest x l.has c
                  | inr new ↦ elim (either x (known.complete x new (beside Fits x largest set t l.has))) [
                    | inl c ↦ absurd (none x c t)
                    | inr c ↦ l.full x c t
                  ]
                ],
              );
              has = l.has;
              free = largest_free;
            }

            only_this : (found : List ℕ) → IsClosedFrom Fits set (take end numbers) found → found ≡ largest
            only_this found f =
                let there : (x : ℕ) → Contains found x → Contains largest x = inside l.has found f.closed.fits f.has f.free in
                same_sets found largest (law.sets found f.closed.fits) (law.sets largest l.fits) there
                (λ x c. in_whole largest found x (f.closed.full largest l.fits (among found largest there)) c)

            none_fits : (found : List ℕ) → IsClosedFrom Fits set (take end numbers) found → (x : ℕ) → Contains excluded x → ¬ FitTogether Fits (x ∷ largest)
            none_fits found f x c t =
                let here : IsClosedFrom Fits set (take end numbers) largest = subst (IsClosedFrom Fits set (take end numbers)) (only_this found f) f in
                here.free x (subst (λ (xs : List ℕ). Contains xs x) (sym at_end) (Contains-append_left excluded p.outside x c)) (((closed_is_full Fits largest).0 here.closed).1 x t)

            by : (closed : Bool) → (IsTrue closed ↔ ((x : ℕ) → Contains excluded x → ¬ FitTogether Fits (x ∷ largest))) → new ≡ cond closed (old ++ largest ∷ []) old → Gains (IsClosedFrom Fits set (take end numbers)) old new
            by true says e = λ found. (
              λ c. elim (Contains-push_cases old largest found (subst (λ (xs : List (List ℕ)). Contains xs found) e c)) [
                | inl d ↦ inl d
                | inr same ↦ inr (subst (IsClosedFrom Fits set (take end numbers)) same (is_closed (says.0 refl)))
              ],
              λ c. subst (λ (xs : List (List ℕ)). Contains xs found) (sym e) (elim c [
                | inl d ↦ Contains-append_left old (largest ∷ []) found d
                | inr f ↦ subst (Contains (old ++ largest ∷ [])) (sym (only_this found f)) (Contains-push old largest)
              ]),
            )
            by false says e = λ found. (
              λ c. inl (subst (λ (xs : List (List ℕ)). Contains xs found) e c),
              λ c. elim c [
                | inl d ↦ subst (λ (xs : List (List ℕ)). Contains xs found) (sym e) d
                | inr f ↦ absurd (false≢true (says.1 (none_fits found f)))
              ],
            )

  module _ (set others : List ℕ) (first : ℕ) (node : IsNode Fits set others first) where
    -- tests beside a node are paid by its set with a candidate
    pub node_paid : (most start end : ℕ) → length others ≤ most → Rises (length others) start end → (length others ≤ first → end ≡ start) → IsPaid (IsGrown Fits set (take first others)) most 0 start end
    node_paid most start end h r none = elim (cases_lt first (length others)) [
      | inr e ↦ paid_none (IsGrown Fits set (take first others)) most start end (none e)
      | inl some ↦ (
          let c = one_left first others some in
          let w = (node.listed.exactly c.0).0 (in_dropped first others c.0 c.1) in
          let own = set_of_them Fits law (c.0 ∷ set) w.1 in
          paid_once (IsGrown Fits set (take first others)) own.0 most (length others) start end h (record {
            reached = record {
              fits = own.1;
              has = among set own.0 (λ x d. (own.2 x).1 (in_rest c.0 set x d));
              free = λ x d k. elim (front_or_rest c.0 set x ((own.2 x).0 k)) [
                | inl e ↦ taken_apart first others node.listed.different c.0 (subst (Contains (take first others)) (sym e) d) c.1
                | inr m ↦ ((node.listed.exactly x).0 (in_taken first others x d)).0 m
              ];
            };
            more = c.0;
            there = (own.2 c.0).1 (in_front c.0 set);
            new = w.0;
          }) r)
    ]

    known_here : AreBeside Fits set others
    known_here = others_beside Fits set others node.listed

    module _ (numbers : List ℕ) (end : ℕ) (old new : List (List ℕ)) (s : IsSettled Fits set others first numbers end old new) where
      pub settled_narrowed : IsNarrowed Fits set others first numbers end
      settled_narrowed =
          let sizes = parted_sizes set others first known_here node.within numbers s.largest end s.parted in
          let same = same_others set others first known_here node.within numbers s.largest end s.parted in
          record {
            node = record {
              fits = node.fits;
              listed = record {
                different = (parted_beside set others first known_here node.within numbers s.largest end s.parted).different;
                exactly = λ x. (λ c. (node.listed.exactly x).0 ((same x).0 c), λ w. (same x).1 ((node.listed.exactly x).1 w));
              };
              within = sizes.1;
            };
            same = parted_same set others first known_here node.within numbers s.largest end s.parted;
            more = sizes.0;
            few = sizes.2;
          }

      pub settled_gains : Gains (IsClosedFrom Fits set (take end numbers)) old new
      settled_gains = settled set others first known_here node.within numbers s.largest end s.parted s.is_largest s.closed old new s.alone s.added

      -- where there is a candidate, a largest set has more than the node's
      largest_grown : first < length others → IsGrown Fits set (take end numbers) s.largest
      largest_grown some = elim (common_or_none (drop first others) s.largest) [
        | inl w ↦ record {
          reached = record { fits = s.is_largest.fits; has = s.is_largest.has; free = largest_free set others first known_here node.within numbers s.largest end s.parted s.is_largest };
          more = w.0;
          there = w.2;
          new = ((node.listed.exactly w.0).0 (in_dropped first others w.0 w.1)).0;
        }
        | inr none ↦ (
            let c = one_left first others some in
            let few : AreAmong s.largest set = among s.largest set (λ x k. elim (s.is_largest.only x k) [ inl d ↦ d | inr d ↦ absurd (none x d k) ]) in
            absurd (none c.0 c.1 (s.is_largest.full c.0 c.1 (beside Fits c.0 set s.largest ((node.listed.exactly c.0).0 (in_dropped first others c.0 c.1)).1 few))))
      ]

      pub settled_pays : (most start stop : ℕ) → length others ≤ most → Rises (length others) start stop → (length others ≤ first → stop ≡ start) → IsPaid (IsGrown Fits set (take end numbers)) most 0 start stop
      settled_pays most start stop h r none = elim (cases_lt first (length others)) [
        | inr e ↦ paid_none (IsGrown Fits set (take end numbers)) most start stop (none e)
        | inl some ↦ paid_once (IsGrown Fits set (take end numbers)) s.largest most (length others) start stop h (largest_grown some) r
      ]
