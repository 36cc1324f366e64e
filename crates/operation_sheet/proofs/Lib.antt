-- the words of the graph sheet: pairs-more, words-length, cost-is, first-is, edge-is
pub mod GraphWords
-- the cycles of an operation and of a chain: cycles-fit, chain-sum
pub mod CycleSums
-- two rows with the same header words: header-same, budgets-same
pub mod SameHeader
-- what the converter is for: conversion-keeps
pub mod Conversion
-- every row comes out as it says: pinned; the numbers in order: convert-numbers
pub mod Rows
